-- An idle turn: what a policy is offered and asked, and what is written for it.
use Rattle.std.specs.Prelude.{◌≡◌, ◌⊎◌, ◌<◌, ℕ, zero, suc, Bool, true, false, List, map, length, slice_index_or, Some, None, Result, Ok, Err, []}
use Rattle.page_device.specs.declared.error.Failed.{Failed}
use Rattle.dep_graph.specs.Lists.{waiter_count}
use Rattle.merge_policy.specs.declared.policy.Offer.{Offer}
use Rattle.merge_policy.specs.Meaning.{PolicyMeaning}
use Rattle.merge_policy.specs.Calls.{Bars, IsTold, Picks}
use Rattle.flush_engine.specs.Tallies.{older, tally_of}
use Rattle.flush_engine.specs.Telling.{Telling}
use Rattle.flush_engine.specs.View.{EngineView, Moment}
use Rattle.flush_engine.specs.Steps.{BarrierDone, BarrierFailed, WriteDone, WriteFailed}
use Rattle.flush_engine.specs.Waves.{AreDue}

abbrev pub offer_at : EngineView → ℕ → Offer
offer_at e page = record { page = page; age = (tally_of page e.tallies).age; edits = (tally_of page e.tallies).edits; waiters = waiter_count e.graph page }

-- the ready pages in rising order, each with its age, edits and waiters
pub record AreOffers (e : EngineView) (offers : List Offer) : Type 0 where
  pub pages : List ℕ
  pub ready : AreDue e.graph None pages
  pub each : offers ≡ map (offer_at e) pages

abbrev pub no_offer : Offer
no_offer = record { page = 0; age = 0; edits = 0; waiters = 0 }

-- no barrier is asked for where nothing is hung
pub record NothingHung {W : Type 0} (old : PolicyMeaning) (a : Moment W) (new : PolicyMeaning) (b : Moment W) : Type 0 where
  pub hung : a.engine.graph.hung ≡ []
  pub policy : old ≡ new
  pub same : a ≡ b

-- the policy was asked for a barrier, with the number of hung pages
pub record Asked {W : Type 0} (answer : Bool) (old : PolicyMeaning) (a : Moment W) (new : PolicyMeaning) : Type 0 where
  pub some : 0 < length a.engine.graph.hung
  pub bars : Bars (length a.engine.graph.hung) answer old new

-- a turn is counted in the ages
abbrev pub aged : {W : Type 0} → Moment W → Moment W
aged m = record m { engine = record m.engine { tallies = map older m.engine.tallies } }

module _ {W : Type 0} (T : Telling W) where
  -- a page was picked and written, and the policy was told its edits
  pub record PickDone (old : PolicyMeaning) (a : Moment W) (new : PolicyMeaning) (b : Moment W) : Type 0 where
    pub offers : List Offer
    pub are : AreOffers a.engine offers
    pub place : ℕ
    pub asked : PolicyMeaning
    pub picks : Picks offers (Some place) old asked
    pub write : WriteDone T (slice_index_or offers place no_offer).page a b
    pub told : IsTold (slice_index_or offers place no_offer).edits asked new

  -- the write failed, and the policy was told nothing of it
  pub record PickFailed (old : PolicyMeaning) (a : Moment W) (new : PolicyMeaning) (b : Moment W) : Type 0 where
    pub offers : List Offer
    pub are : AreOffers a.engine offers
    pub place : ℕ
    pub picks : Picks offers (Some place) old new
    pub write : WriteFailed T (slice_index_or offers place no_offer).page a b

  -- nothing was picked
  pub record PickNone (old new : PolicyMeaning) (a : Moment W) : Type 0 where
    pub offers : List Offer
    pub are : AreOffers a.engine offers
    pub picks : Picks offers None old new

  -- one pick, and whether a page was written
  abbrev pub PickEnds : Result Bool Failed → PolicyMeaning → Moment W → PolicyMeaning → Moment W → Type 0
  PickEnds (Ok true) old a new b = PickDone old a new b
  PickEnds (Ok false) old a new b = PickNone old new a × (a ≡ b)
  PickEnds (Err _) old a new b = PickFailed old a new b

  -- so many pages were picked one after another
  unfoldable pub PicksDone : ℕ → PolicyMeaning → Moment W → PolicyMeaning → Moment W → Type 0
  PicksDone zero old a new b = (old ≡ new) × (a ≡ b)
  PicksDone (suc n) old a new b = (mid : PolicyMeaning) × (m : Moment W) × PickDone old a mid m × PicksDone n mid m new b

  -- all that is picked, and then nothing
  pub record AllPicked (old : PolicyMeaning) (a : Moment W) (new : PolicyMeaning) (b : Moment W) : Type 0 where
    pub count : ℕ
    pub mid : PolicyMeaning
    pub done : PicksDone count old a mid b
    pub none : PickNone mid new b

  -- some picks, and one of which the write failed
  pub record PicksFailed (old : PolicyMeaning) (a : Moment W) (new : PolicyMeaning) (b : Moment W) : Type 0 where
    pub count : ℕ
    pub mid : PolicyMeaning
    pub m : Moment W
    pub done : PicksDone count old a mid m
    pub failed : PickFailed mid m new b

  abbrev pub PicksEnd : Result Unit Failed → PolicyMeaning → Moment W → PolicyMeaning → Moment W → Type 0
  PicksEnd (Ok _) old a new b = AllPicked old a new b
  PicksEnd (Err _) old a new b = PicksFailed old a new b

  -- a barrier is made exactly where some page is hung and the policy asks for it
  abbrev pub BarrierEnds : Result Bool Failed → PolicyMeaning → Moment W → PolicyMeaning → Moment W → Type 0
  BarrierEnds (Ok true) old a new b = Asked true old a new × BarrierDone T a b
  BarrierEnds (Ok false) old a new b = NothingHung old a new b ⊎ (Asked false old a new × (a ≡ b))
  BarrierEnds (Err _) old a new b = Asked true old a new × BarrierFailed T a b

  -- all that is picked, and then the barrier
  pub record Round (result : Result Bool Failed) (old : PolicyMeaning) (a : Moment W) (new : PolicyMeaning) (b : Moment W) : Type 0 where
    pub mid : PolicyMeaning
    pub m : Moment W
    pub picks : AllPicked old a mid m
    pub ends : BarrierEnds result mid m new b

  -- an idle turn is one round, which a failed write may cut short; it answers true exactly where a barrier was made
  abbrev pub TurnEnds : Result Bool Failed → PolicyMeaning → Moment W → PolicyMeaning → Moment W → Type 0
  TurnEnds (Ok answer) old a new b = Round (Ok answer) old a new b
  TurnEnds (Err failed) old a new b = PicksFailed old a new b ⊎ Round (Err failed) old a new b

  -- An idle step, over what a caller's pass may do: idle turns with a pass after each true, until one answers false or fails; then a pass, and the turn is counted in the ages.
  module _ (Pass : Moment W → Moment W → Type 0) where
    abbrev pub LastTurn : Result Unit Failed → PolicyMeaning → Moment W → PolicyMeaning → Moment W → Type 0
    LastTurn (Ok _) old a new b = TurnEnds (Ok false) old a new b
    LastTurn (Err failed) old a new b = TurnEnds (Err failed) old a new b

    unfoldable pub Turns : ℕ → Result Unit Failed → PolicyMeaning → Moment W → PolicyMeaning → Moment W → Type 0
    Turns zero result old a new b = LastTurn result old a new b
    Turns (suc n) result old a new b = (mid : PolicyMeaning) × (m : Moment W) × (p : Moment W) × TurnEnds (Ok true) old a mid m × Pass m p × Turns n result mid p new b

    pub record IdleStep (result : Result Unit Failed) (old : PolicyMeaning) (a : Moment W) (new : PolicyMeaning) (b : Moment W) : Type 0 where
      pub barriers : ℕ
      pub last : Moment W
      pub turns : Turns barriers result old a new last
      pub passed : Moment W
      pub pass : Pass last passed
      pub counted : b ≡ aged passed
