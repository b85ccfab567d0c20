-- How device calls ended: each `Done`, or the last one not.
use Rattle.std.proofs.Common.{◌≡◌, ◌⊎◌, ⊎_elim, ℕ, List, [], ◌∷◌, ◌++◌, refl, sym, ◌∙◌, ap, subst, append_assoc, Result, Ok, Err}
use Rattle.page_device.specs.Block.{Block}
use Rattle.page_device.specs.declared.error.Failed.{Failed}
use Rattle.page_device.specs.declared.device.LogEntry.{LogEntry}
use Rattle.page_device.specs.declared.device.LogEntry.TheVariants as entry
use Rattle.page_device.specs.declared.device.End.TheVariants as end
use Rattle.page_device.specs.Meaning.{Meaning, IsRefused, WriteEntry, FlushEntry}
use Rattle.dedup_writer.specs.Put.{Puts, refused, flushed}
use Rattle.dedup_writer.specs.Calls.{IsUndone, AllDone, EndUndone}

refused_undone : (e : LogEntry) → IsRefused e → IsUndone e
refused_undone (entry.Write page block end.Done) h = cc
refused_undone (entry.Write page block end.Taken) h = tt
refused_undone (entry.Write page block end.Refused) h = tt
refused_undone (entry.Flush end.Done) h = cc
refused_undone (entry.Flush end.Taken) h = tt
refused_undone (entry.Flush end.Refused) h = tt

write_undone : (page : ℕ) (block : Block) (f : Failed) (e : LogEntry) → WriteEntry page block (Err f) e → IsUndone e
write_undone page block f e h = ⊎_elim (λ taken. subst IsUndone (sym taken) tt) (λ refused. refused_undone e refused) h

-- a page that could not be put ends with a call that did not end `Done`
pub put_undone : (page : ℕ) (block : Block) (failed : Failed) (d0 d1 : Meaning) (calls : List LogEntry) → Puts page block (Err failed) d0 d1 calls → EndUndone calls
put_undone page block failed d0 d1 _ (refused r) = record { front = []; last = r.write.entry; split = refl; undone = write_undone page block r.failed r.write.entry r.write.is }
put_undone page block failed d0 d1 _ (flushed f) = record { front = f.write.entry ∷ []; last = f.flush.entry; split = refl; undone = refused_undone f.flush.entry f.flush.is }

-- calls in front of others whose last did not end `Done`
pub undone_behind : (before calls : List LogEntry) → EndUndone calls → EndUndone (before ++ calls)
undone_behind before calls h = record {
  front = before ++ h.front;
  last = h.last;
  split = ap (λ (l : List LogEntry). before ++ l) h.split ∙ sym (append_assoc before h.front (h.last ∷ []));
  undone = h.undone;
}

pub done_none : AllDone []
unfolding AllDone
done_none = tt

pub done_first : (a b : List LogEntry) → AllDone (a ++ b) → AllDone a
unfolding AllDone
done_first [] b all = tt
done_first (e ∷ a) b all = (all.0, done_first a b all.1)

pub done_next : (a b : List LogEntry) → AllDone (a ++ b) → AllDone b
unfolding AllDone
done_next [] b all = all
done_next (e ∷ a) b all = done_next a b all.1

pub done_append : (a b : List LogEntry) → AllDone a → AllDone b → AllDone (a ++ b)
unfolding AllDone
done_append [] b first next = next
done_append (e ∷ a) b first next = (first.0, done_append a b first.1 next)

undone_end : (calls : List LogEntry) → EndUndone calls → AllDone calls → ⊥
unfolding AllDone
undone_end calls h all = (done_next h.front (h.last ∷ []) (subst AllDone h.split all)).0 h.undone

-- a page was put where each call ended `Done`, and nowhere else
pub puts_done : (page : ℕ) (block : Block) (r : Result Unit Failed) (d e : Meaning) (made : List LogEntry) → Puts page block r d e made → AllDone made → r ≡ Ok tt
puts_done page block (Ok _) d e made puts all = refl
puts_done page block (Err failed) d e made puts all = absurd (undone_end made (put_undone page block failed d e made puts) all)

flush_ends : (r : Result Unit Failed) (e : LogEntry) → FlushEntry r e → r ≡ Ok tt → IsUndone e → ⊥
flush_ends (Ok _) e is ok undone = subst IsUndone is undone
flush_ends (Err failed) e is ok undone = absurd (cc ok)

pub puts_all_done : (page : ℕ) (block : Block) (r : Result Unit Failed) (d e : Meaning) (made : List LogEntry) → Puts page block r d e made → r ≡ Ok tt → AllDone made
unfolding AllDone
puts_all_done page block r d e _ (refused f) ok = absurd (cc (sym ok ∙ f.answer))
puts_all_done page block r d e _ (flushed f) ok = (λ undone. subst IsUndone f.write.is undone, (flush_ends r f.flush.entry f.flush.is ok, tt))
