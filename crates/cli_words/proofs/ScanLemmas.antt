-- Words by their first characters, and the tokens that tidy words are.
use Rattle.std.proofs.Common.{arith, ◌≡◌, ◌∙◌, ap, ap₂, sym, subst, refl, ℕ, ◌<◌, Bool, true, false, ◌==◌, List, [], ◌∷◌, ◌++◌, length, get_or, drop, cond, nat_lt, Option, Some, None, eqb-true, lt-ltb, ltb-true, ltb-false, bytes_eq}
use Rattle.std.specs.Prelude.{is_some}
use Rattle.std.specs.Option.{option_map_or}
use Rattle.std.specs.List.{position_or_len, before_first, after_first}
use Rattle.std.proofs.lemmas.List.{take_all}
use Rattle.std.proofs.lemmas.List.Sums.{passes_at_first, split_at_first}
use Rattle.std.proofs.lemmas.Slice.Eq.{bytes_eq-Decides}
use Rattle.cli_words.specs.Names.{Text, option_text, option_with_text}
use Rattle.cli_words.specs.Scan.{IsPlain, IsTidy, TidyTokens, after, after_argument, after_kind, after_value, body_kind, ends_well, has_come, hyphen_kind, is_equals, kind_of, marked, named_kind}
use Rattle.cli_words.specs.Tokens.{Token, dashed, dashed_value, spelling, plain, joined, apart}
use Rattle.cli_words.specs.declared.names.Argument.{Argument}
use Rattle.cli_words.specs.declared.names.Argument.TheVariants.{Positional, Named}
use Rattle.cli_words.specs.declared.names.OptionName.{OptionName}
use Rattle.cli_words.specs.declared.names.OptionName.TheVariants.{Blocks, Pages, Cache, Policy, Seed, Count}
use Rattle.cli_words.specs.declared.scan.Came.{Came}
use Rattle.cli_words.specs.declared.scan.Scan.{Scan}
use Rattle.cli_words.specs.declared.scan.WordKind.{WordKind}
use Rattle.cli_words.specs.declared.scan.WordKind.TheVariants.{Plain, Name, NameAndValue, Strange}

-- ---- what a word of a kind is

pick : (t : Text) (x o : OptionName) (rest : Option OptionName) → cond (bytes_eq t (option_text x)) (Some x) rest ≡ Some o
    → (rest ≡ Some o → t ≡ option_text o) → t ≡ option_text o
pick t x o rest found more = go (bytes_eq t (option_text x)) refl found
  where
    go : (b : Bool) → bytes_eq t (option_text x) ≡ b → cond b (Some x) rest ≡ Some o → t ≡ option_text o
    go true same is = let one : x ≡ o = cc in (bytes_eq-Decides t (option_text x)).0 same ∙ ap option_text one
    go false same is = more is

pub text_of_option : (t : Text) (o : OptionName) → option_with_text t ≡ Some o → t ≡ option_text o
text_of_option t o found =
    pick t Blocks o _ found (λ f. pick t Pages o _ f (λ f. pick t Cache o _ f (λ f. pick t Policy o _ f
    (λ f. pick t Seed o _ f (λ f. pick t Count o _ f (λ f. absurd cc))))))

abbrev IsKind : Text → WordKind → Type 0
IsKind w Plain = IsPlain w
IsKind w (Name o) = w ≡ dashed o
IsKind w (NameAndValue o) = (v : Text) × (w ≡ dashed_value o v)
IsKind w Strange = Unit {0}

before_all : (body : Text) → nat_lt (position_or_len is_equals body) (length body) ≡ false → before_first is_equals body ≡ body
before_all body none = take_all (position_or_len is_equals body) body (ltb-false _ _ none)

named_is : (body : Text) (o : Option OptionName) → option_with_text (before_first is_equals body) ≡ o
    → (b : Bool) → nat_lt (position_or_len is_equals body) (length body) ≡ b
    → IsKind (45 ∷ 45 ∷ body) (named_kind o (is_some (cond b (Some (position_or_len is_equals body)) None)))
named_is body None found b inside = tt
named_is body (Some o) found true inside =
    let low = ltb-true _ _ inside in
    let equals : get_or body (position_or_len is_equals body) 0 ≡ 61 = eqb-true _ _ (passes_at_first is_equals body 0 low) in
    let name = text_of_option _ o found in (
      after_first is_equals body,
      ap (λ b. 45 ∷ 45 ∷ b) (split_at_first is_equals body 0 low ∙ ap (λ n. n ++ (get_or body (position_or_len is_equals body) 0 ∷ after_first is_equals body)) name
          ∙ ap (λ k. option_text o ++ (k ∷ after_first is_equals body)) equals),
    )
named_is body (Some o) found false inside =
    ap (λ b. 45 ∷ 45 ∷ b) (sym (before_all body inside) ∙ text_of_option _ o found)

hyphen_is : (cs : Text) → IsKind (45 ∷ cs) (hyphen_kind cs)
hyphen_is [] = tt
hyphen_is (c ∷ cs) = go (c == 45) refl
  where
    go : (b : Bool) → (c == 45) ≡ b → IsKind (45 ∷ c ∷ cs) (cond b (body_kind cs) Strange)
    go true is = subst (λ x. IsKind (45 ∷ x ∷ cs) (body_kind cs)) (sym (eqb-true c 45 is)) (named_is cs _ refl _ refl)
    go false is = tt

kind_is : (w : Text) → IsKind w (kind_of w)
kind_is [] = tt
kind_is (c ∷ cs) = go (c == 45) refl
  where
    go : (b : Bool) → (c == 45) ≡ b → IsKind (c ∷ cs) (cond b (hyphen_kind cs) Plain)
    go true is = subst (λ x. IsKind (x ∷ cs) (hyphen_kind cs)) (sym (eqb-true c 45 is)) (hyphen_is cs)
    go false is = is

-- ---- the kind of a word that is spelled

kind-plain : (w : Text) → IsPlain w → kind_of w ≡ Plain
kind-plain [] is = absurd is
kind-plain (c ∷ cs) is = ap (λ b. cond b (hyphen_kind cs) Plain) is

kind-dashed : (o : OptionName) → kind_of (dashed o) ≡ Name o
kind-dashed Blocks = refl
kind-dashed Pages = refl
kind-dashed Cache = refl
kind-dashed Policy = refl
kind-dashed Seed = refl
kind-dashed Count = refl

equals_inside : (o : OptionName) (k : ℕ) (body : Text) → k < length body
    → named_kind (Some o) (is_some (cond (nat_lt k (length body)) (Some k) None)) ≡ NameAndValue o
equals_inside o k body inside = ap (λ b. named_kind (Some o) (is_some (cond b (Some k) None))) (lt-ltb k (length body) inside)

kind-dashed_value : (o : OptionName) (v : Text) → kind_of (dashed_value o v) ≡ NameAndValue o
kind-dashed_value Blocks v = equals_inside Blocks 6 (option_text Blocks ++ 61 ∷ v) (omega arith)
kind-dashed_value Pages v = equals_inside Pages 5 (option_text Pages ++ 61 ∷ v) (omega arith)
kind-dashed_value Cache v = equals_inside Cache 5 (option_text Cache ++ 61 ∷ v) (omega arith)
kind-dashed_value Policy v = equals_inside Policy 6 (option_text Policy ++ 61 ∷ v) (omega arith)
kind-dashed_value Seed v = equals_inside Seed 4 (option_text Seed ++ 61 ∷ v) (omega arith)
kind-dashed_value Count v = equals_inside Count 5 (option_text Count ++ 61 ∷ v) (omega arith)

-- ---- tidy tokens end well

abbrev at : Came → Bool → Scan
at came waits = record { came = came; waits = waits }

after_argument-fresh : (came : Came) (a : Argument) (waits : Bool) → has_come came a ≡ false
    → after_argument (at came false) a waits ≡ Some (at (marked came a) waits)
after_argument-fresh came a waits fresh = ap (λ b. cond b None (Some (at (marked came a) waits))) fresh

go_on : (s next : Scan) (w : Text) (ws : List Text) → after s w ≡ Some next → ends_well s (w ∷ ws) ≡ ends_well next ws
go_on s next w ws is = ap (λ o. option_map_or (λ n. ends_well n ws) o false) is

pub ends_well-spelling : (ts : List Token) (came : Came) → IsTidy came ts → ends_well (at came false) (spelling ts) ≡ true
ends_well-spelling [] came tidy = refl
ends_well-spelling (plain w ∷ ts) came tidy =
    go_on (at came false) (at (marked came Positional) false) w (spelling ts)
    (ap (after_kind (at came false)) (kind-plain w tidy.0) ∙ after_argument-fresh came Positional false tidy.1)
    ∙ ends_well-spelling ts (marked came Positional) tidy.2
ends_well-spelling (joined o v ∷ ts) came tidy =
    go_on (at came false) (at (marked came (Named o)) false) (dashed_value o v) (spelling ts)
    (ap (after_kind (at came false)) (kind-dashed_value o v) ∙ after_argument-fresh came (Named o) false tidy.0)
    ∙ ends_well-spelling ts (marked came (Named o)) tidy.1
ends_well-spelling (apart o v ∷ ts) came tidy =
    go_on (at came false) (at (marked came (Named o)) true) (dashed o) (v ∷ spelling ts)
    (ap (after_kind (at came false)) (kind-dashed o) ∙ after_argument-fresh came (Named o) true tidy.1)
    ∙ go_on (at (marked came (Named o)) true) (at (marked came (Named o)) false) v (spelling ts)
    (ap (after_value (at (marked came (Named o)) true)) (kind-plain v tidy.0))
    ∙ ends_well-spelling ts (marked came (Named o)) tidy.2

-- ---- words that end well are those of tidy tokens

-- the value of the option that came last, and tidy tokens
record ValueAndTidy (came : Came) (words : List Text) : Type 0 where
  value : Text
  tokens : List Token
  spelled : words ≡ value ∷ spelling tokens
  is_plain : IsPlain value
  tidy : IsTidy came tokens

abbrev Ends : List Text → Type 0
Ends ws = (came : Came) → (ends_well (at came false) ws ≡ true → TidyTokens came ws) × (ends_well (at came true) ws ≡ true → ValueAndTidy came ws)

fresh_then : (came : Came) (a : Argument) (waits : Bool) (ws : List Text)
    → option_map_or (λ n. ends_well n ws) (after_argument (at came false) a waits) false ≡ true
    → (has_come came a ≡ false) × (ends_well (at (marked came a) waits) ws ≡ true)
fresh_then came a waits ws ends = go (has_come came a) refl ends
  where
    go : (b : Bool) → has_come came a ≡ b → option_map_or (λ n. ends_well n ws) (cond b None (Some (at (marked came a) waits))) false ≡ true
        → (has_come came a ≡ false) × (ends_well (at (marked came a) waits) ws ≡ true)
    go true is h = absurd cc
    go false is h = (is, h)

argument_first : (w : Text) (ws : List Text) (rest : Ends ws) (came : Came) (k : WordKind) → IsKind w k
    → option_map_or (λ n. ends_well n ws) (after_kind (at came false) k) false ≡ true → TidyTokens came (w ∷ ws)
argument_first w ws rest came Plain is ends =
    let fresh = fresh_then came Positional false ws ends in
    let t = (rest (marked came Positional)).0 fresh.1 in
    record { tokens = plain w ∷ t.tokens; spelled = ap (λ l. w ∷ l) t.spelled; tidy = (is, fresh.0, t.tidy) }
argument_first w ws rest came (Name o) is ends =
    let fresh = fresh_then came (Named o) true ws ends in
    let t = (rest (marked came (Named o))).1 fresh.1 in
    record { tokens = apart o t.value ∷ t.tokens; spelled = ap₂ (λ x l. x ∷ l) is t.spelled; tidy = (t.is_plain, fresh.0, t.tidy) }
argument_first w ws rest came (NameAndValue o) is ends =
    let fresh = fresh_then came (Named o) false ws ends in
    let t = (rest (marked came (Named o))).0 fresh.1 in
    record { tokens = joined o is.0 ∷ t.tokens; spelled = ap₂ (λ x l. x ∷ l) is.1 t.spelled; tidy = (fresh.0, t.tidy) }
argument_first w ws rest came Strange is ends = absurd cc

value_first : (w : Text) (ws : List Text) (rest : Ends ws) (came : Came) (k : WordKind) → IsKind w k
    → option_map_or (λ n. ends_well n ws) (after_value (at came true) k) false ≡ true → ValueAndTidy came (w ∷ ws)
value_first w ws rest came Plain is ends =
    let t = (rest came).0 ends in
    record { value = w; tokens = t.tokens; spelled = ap (λ l. w ∷ l) t.spelled; is_plain = is; tidy = t.tidy }
value_first w ws rest came (Name o) is ends = absurd cc
value_first w ws rest came (NameAndValue o) is ends = absurd cc
value_first w ws rest came Strange is ends = absurd cc

ends : (ws : List Text) → Ends ws
ends [] came = (λ h. record { tokens = []; spelled = refl; tidy = tt }, λ h. absurd cc)
ends (w ∷ ws) came = (argument_first w ws (ends ws) came (kind_of w) (kind_is w), value_first w ws (ends ws) came (kind_of w) (kind_is w))

pub tidy_tokens : (came : Came) (ws : List Text) → ends_well (at came false) ws ≡ true → TidyTokens came ws
tidy_tokens came ws = (ends ws came).0

-- ---- words are those of one list of tidy tokens at most

-- the kind of a token's first word
abbrev shape : Token → WordKind
shape (plain w) = Plain
shape (joined o v) = NameAndValue o
shape (apart o v) = Name o

-- the first word, where there is one
abbrev first_word : List Text → Text
first_word [] = []
first_word (w ∷ ws) = w

first_kind : (came : Came) (t : Token) (ts : List Token) → IsTidy came (t ∷ ts) → kind_of (first_word (spelling (t ∷ ts))) ≡ shape t
first_kind came (plain w) ts tidy = kind-plain w tidy.0
first_kind came (joined o v) ts tidy = kind-dashed_value o v
first_kind came (apart o v) ts tidy = kind-dashed o

same_shape : (a b : Came) (t u : Token) (ts us : List Token) → IsTidy a (t ∷ ts) → IsTidy b (u ∷ us) → spelling (t ∷ ts) ≡ spelling (u ∷ us)
    → shape t ≡ shape u
same_shape a b t u ts us one other e = sym (first_kind a t ts one) ∙ ap (λ ws. kind_of (first_word ws)) e ∙ first_kind b u us other

-- an option and its value in one word
value_once : (o : OptionName) (v w : Text) → dashed_value o v ≡ dashed_value o w → v ≡ w
value_once Blocks v w e = ap (drop 9) e
value_once Pages v w e = ap (drop 8) e
value_once Cache v w e = ap (drop 8) e
value_once Policy v w e = ap (drop 9) e
value_once Seed v w e = ap (drop 7) e
value_once Count v w e = ap (drop 8) e

pub spelled_once : (a b : Came) (ts us : List Token) → IsTidy a ts → IsTidy b us → spelling ts ≡ spelling us → ts ≡ us
spelled_once a b [] [] one other e = refl
spelled_once a b [] (plain x ∷ us) one other e = absurd cc
spelled_once a b [] (joined p x ∷ us) one other e = absurd cc
spelled_once a b [] (apart p x ∷ us) one other e = absurd cc
spelled_once a b (plain w ∷ ts) [] one other e = absurd cc
spelled_once a b (joined o v ∷ ts) [] one other e = absurd cc
spelled_once a b (apart o v ∷ ts) [] one other e = absurd cc
spelled_once a b (plain w ∷ ts) (plain x ∷ us) one other e =
    ap₂ (λ y l. plain y ∷ l) (ap first_word e) (spelled_once (marked a Positional) (marked b Positional) ts us one.2 other.2 (ap (drop 1) e))
spelled_once a b (joined o v ∷ ts) (joined p x ∷ us) one other e =
    let kinds = same_shape a b (joined o v) (joined p x) ts us one other e in
    let name : o ≡ p = cc in
    let value : v ≡ x = value_once p v x (subst (λ n. dashed_value n v ≡ dashed_value p x) name (ap first_word e)) in
    let rest = spelled_once (marked a (Named o)) (marked b (Named p)) ts us one.1 other.1 (ap (drop 1) e) in
    cc
spelled_once a b (apart o v ∷ ts) (apart p x ∷ us) one other e =
    let kinds = same_shape a b (apart o v) (apart p x) ts us one other e in
    let name : o ≡ p = cc in
    let value : v ≡ x = ap (λ ws. first_word (drop 1 ws)) e in
    let rest = spelled_once (marked a (Named o)) (marked b (Named p)) ts us one.2 other.2 (ap (drop 2) e) in
    cc
spelled_once a b (t ∷ ts) (u ∷ us) one other e = let kinds = same_shape a b t u ts us one other e in absurd cc
