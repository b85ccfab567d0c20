-- What a call makes of a device that is known.
use Rattle.std.proofs.Common.{◌≡◌, ◌⊎◌, inl, inr, ◌<◌, ℕ, refl, sym, ap, ◌∙◌, subst, List, [], ◌∷◌, ◌++◌, Ok, Err, length}
use Rattle.page_device.specs.Block.{Block}
use Rattle.page_device.specs.declared.device.End.TheVariants.{Done, Refused, Taken}
use Rattle.page_device.specs.declared.device.LogEntry.{LogEntry}
use Rattle.page_device.specs.declared.device.LogEntry.TheVariants.{Write, Flush}
use Rattle.page_device.specs.declared.error.Failed.{Failed}
use Rattle.page_device.specs.Disk.{DeviceState, after, settled, written}
use Rattle.page_device.specs.Possible.{length-overlay}
use Rattle.page_device.specs.Meaning.{FlushEntry, IsRefused, Meaning, OneCall, WriteEntry}
use Rattle.engine_model.specs.Disk.{InRange}
use Rattle.store_core.specs.Views.{IsKnown}

range_push : (n page : ℕ) (c : Block) (xs : List (ℕ × Block)) → InRange n xs → page < n → InRange n (xs ++ (page, c) ∷ [])
range_push n page c [] r lt = (lt, tt)
range_push n page c (x ∷ xs) r lt = (r.0, range_push n page c xs r.1 lt)

-- the device is known still, has as many pages, and has come to this state
pub record Reaches (d e : Meaning) (state : DeviceState) : Type 0 where
  pub known : IsKnown e
  pub state_is : e.state ≡ state
  pub pages : e.pages ≡ d.pages

module _ (d e : Meaning) (k : IsKnown d) where
  reaches : {P : LogEntry → Type 0} (s : DeviceState) → OneCall P d e → e.state ≡ s → length s.fixed ≡ d.pages → InRange d.pages s.since → Reaches d e s
  reaches s call is long range = record {
    known = record {
      honest = call.kind.honest ∙ k.honest;
      tells_pages = call.kind.tells_pages ∙ k.tells_pages;
      counts = ap (λ (x : DeviceState). length x.fixed) is ∙ long ∙ sym call.pages;
      in_range = subst (λ (n : ℕ). InRange n e.state.since) (sym call.pages) (subst (λ (x : DeviceState). InRange d.pages x.since) (sym is) range);
    };
    state_is = is;
    pages = call.pages;
  }

  takes : {P : LogEntry → Type 0} (page : ℕ) (c : Block) → page < d.pages → OneCall P d e → e.state ≡ written d.state page c → Reaches d e (written d.state page c)
  takes page c lt call is = reaches (written d.state page c) call is k.counts (range_push d.pages page c d.state.since k.in_range lt)

  stays : {P : LogEntry → Type 0} → OneCall P d e → e.state ≡ d.state → Reaches d e d.state
  stays call is = reaches d.state call is k.counts k.in_range

  refused : (s : DeviceState) (entry : LogEntry) → IsRefused entry → after s entry ≡ s
  unfolding after
  refused s (Write page c Done) r = absurd (let bad : Done ≡ Refused = r in cc)
  refused s (Write page c Taken) r = absurd (let bad : Taken ≡ Refused = r in cc)
  refused s (Write page c Refused) r = refl
  refused s (Flush Done) r = absurd (let bad : Done ≡ Refused = r in cc)
  refused s (Flush Taken) r = absurd (let bad : Taken ≡ Refused = r in cc)
  refused s (Flush Refused) r = refl

  pub write_done : (page : ℕ) (c : Block) → page < d.pages → OneCall (WriteEntry page c (Ok tt)) d e → Reaches d e (written d.state page c)
  unfolding after
  write_done page c lt call = takes page c lt call (call.state k.tells_pages ∙ ap (after d.state) call.is)

  -- it was taken, or not
  pub write_failed : (page : ℕ) (c : Block) (f : Failed) → page < d.pages → OneCall (WriteEntry page c (Err f)) d e → Reaches d e (written d.state page c) ⊎ Reaches d e d.state
  unfolding after
  write_failed page c f lt call = elim call.is [
    | inl t ↦ inl (takes page c lt call (call.state k.tells_pages ∙ ap (after d.state) t))
    | inr r ↦ inr (stays call (call.state k.tells_pages ∙ refused d.state call.entry r))
  ]

  pub barrier_done : OneCall (FlushEntry (Ok tt)) d e → Reaches d e (settled d.state)
  unfolding after
  barrier_done call = reaches (settled d.state) call (call.state k.tells_pages ∙ ap (after d.state) call.is) (length-overlay d.state.fixed d.state.since ∙ k.counts) tt

  pub barrier_failed : (f : Failed) → OneCall (FlushEntry (Err f)) d e → Reaches d e d.state
  barrier_failed f call = stays call (call.state k.tells_pages ∙ refused d.state call.entry call.is)
