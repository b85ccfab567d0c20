-- Known bytes of std's readers and writers, over calls that left them as they were.
use Rattle.std.proofs.Common.{ℕ, List, ◌++◌, take, Option, None, Some, Result, Ok, Err, refl, ◌∙◌, ap, sym}
use Rattle.std.specs.Io.KnownBytes.{Keeps, Appends, Consumes, ReadConsumes, WriteAppends}

pub keeps_same : (a : Option (List ℕ)) → Keeps a a
keeps_same None = tt
keeps_same (Some xs) = refl

pub keeps_then : (a b c : Option (List ℕ)) → Keeps a b → Keeps b c → Keeps a c
keeps_then None b c h k = tt
keeps_then (Some xs) None c h k = absurd h
keeps_then (Some xs) (Some ys) None h k = k
keeps_then (Some xs) (Some ys) (Some zs) h k = k ∙ h

pub consumes_then : (a b c : Option (List ℕ)) (bytes : List ℕ) → Keeps a b → Consumes b c bytes → Consumes a c bytes
consumes_then None b c bytes h k = tt
consumes_then (Some xs) None c bytes h k = absurd h
consumes_then (Some xs) (Some ys) None bytes h k = k
consumes_then (Some xs) (Some ys) (Some zs) bytes h k = sym h ∙ k

pub appends_then : (a b c : Option (List ℕ)) (bytes : List ℕ) → Keeps a b → Appends b c bytes → Appends a c bytes
appends_then None b c bytes h k = tt
appends_then (Some xs) None c bytes h k = absurd h
appends_then (Some xs) (Some ys) None bytes h k = k
appends_then (Some xs) (Some ys) (Some zs) bytes h k = k ∙ ap (λ (l : List ℕ). l ++ bytes) h

-- a read after others that were interrupted
pub reads_then : {E : Type 0} (a b c : Option (List ℕ)) (r : Result ℕ E) (into : List ℕ) → Keeps a b → ReadConsumes b c r into → ReadConsumes a c r into
reads_then a b c (Ok n) into h k = (consumes_then a b c (take n into) h k.0, k.1)
reads_then a b c (Err e) into h k = keeps_then a b c h k

-- a write after others that were interrupted
pub writes_then : {E : Type 0} (a b c : Option (List ℕ)) (r : Result ℕ E) (from : List ℕ) → Keeps a b → WriteAppends b c r from → WriteAppends a c r from
writes_then a b c (Ok n) from h k = appends_then a b c (take n from) h k
writes_then a b c (Err e) from h k = keeps_then a b c h k
