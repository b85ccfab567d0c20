-- The plain state's pages are those of a device.
use Rattle.std.proofs.Common.{◌≡◌, ◌≢◌, ◌⊎◌, inl, inr, ℕ, cond, arith, refl, sym, ap, ◌∙◌, subst, List, [], ◌∷◌, ◌++◌, eqb, eq-eqb, ne_eqb, get_or, set, length, length-set, get_or-set_other, get_or-set_same}
use Rattle.std.proofs.lemmas.List.{get_or_past}
use Rattle.std.proofs.lemmas.Option.{get_or_from_slice_get, slice_get-get_or}
use Rattle.std.proofs.lemmas.Bool.{cases_Bool, cases_eq, cases_lt}
use Rattle.page_device.specs.Chosen.{contents_of}
use Rattle.page_device.specs.Disk.{DeviceState, IsImage, WasWritten, overlay, settled, written}
use Rattle.order_model.specs.Contents.{IsAmong}
use Rattle.engine_model.specs.Disk.{InRange, fixed_at, newest_in, newest_on, older_on}

newest_push : (xs : List (ℕ × List ℕ)) (page other : ℕ) (c d : List ℕ) → newest_in (xs ++ (page, c) ∷ []) other d ≡ cond (eqb page other) c (newest_in xs other d)
newest_push [] page other c d = refl
newest_push (x ∷ xs) page other c d = newest_push xs page other c (cond (eqb x.0 other) x.1 d)

pub write_here : (d : DeviceState) (page : ℕ) (c : List ℕ) → newest_on (written d page c) page ≡ c
write_here d page c = newest_push d.since page page c (fixed_at d page) ∙ ap (λ b. cond b c (newest_on d page)) (eq-eqb page page refl)

pub write_other : (d : DeviceState) (page other : ℕ) (c : List ℕ) → other ≢ page → newest_on (written d page c) other ≡ newest_on d other
write_other d page other c ne = newest_push d.since page other c (fixed_at d other) ∙ ap (λ b. cond b c (newest_on d other)) (ne_eqb page other (λ e. ne (sym e)))

-- the newest content of each page after a write
pub newest_write : (d : DeviceState) (page a : ℕ) (c : List ℕ) → newest_on (written d page c) a ≡ cond (eqb a page) c (newest_on d a)
newest_write d page a c = elim (cases_eq a page) [
  | inl e ↦ rw (eq-eqb a page e) (ap (newest_on (written d page c)) e ∙ write_here d page c)
  | inr ne ↦ rw (ne_eqb a page ne) (write_other d page a c ne)
]

contents_after : (xs : List (ℕ × List ℕ)) (page a : ℕ) (c : List ℕ) → contents_of (xs ++ (page, c) ∷ []) a ≡ contents_of xs a ++ cond (eqb a page) (c ∷ []) []
unfolding contents_of
contents_after [] page a c = elim (cases_eq a page) [
  | inl e ↦ rw (eq-eqb a page e, eq-eqb page a (sym e))
  | inr ne ↦ rw (ne_eqb a page ne, ne_eqb page a (λ e. ne (sym e)))
]
contents_after (x ∷ xs) page a c = elim (cases_eq x.0 a) [
  | inl e ↦ rw (eq-eqb x.0 a e, contents_after xs page a c)
  | inr ne ↦ rw (ne_eqb x.0 a ne, contents_after xs page a c)
]

-- and all that a crash may leave of it
pub all_after_write : (d : DeviceState) (page a : ℕ) (c : List ℕ) → older_on (written d page c) a ≡ older_on d a ++ cond (eqb a page) (c ∷ []) []
all_after_write d page a c = ap (λ xs. fixed_at d a ∷ xs) (contents_after d.since page a c)

written_push : (xs : List (ℕ × List ℕ)) (page other : ℕ) (c x : List ℕ) → IsAmong x (contents_of (xs ++ (page, c) ∷ []) other)
    → IsAmong x (contents_of xs other) ⊎ ((other ≡ page) × (x ≡ c))
unfolding contents_of IsAmong
written_push [] page other c x h = elim (cases_eq page other) [
  | inl e ↦ inr (sym e, here (rw (eq-eqb page other e) at h))
  | inr ne ↦ absurd (rw (ne_eqb page other ne) at h)
]
  where
    here : IsAmong x (c ∷ []) → x ≡ c
    here (inl e) = e
    here (inr n) = absurd n
written_push (y ∷ ys) page other c x h = elim (cases_eq y.0 other) [
  | inr ne ↦ rw (ne_eqb y.0 other ne) (written_push ys page other c x (rw (ne_eqb y.0 other ne) at h))
  | inl e ↦ rw (eq-eqb y.0 other e) (front (written_push ys page other c x) (rw (eq-eqb y.0 other e) at h))
]
  where
    front : (IsAmong x (contents_of (ys ++ (page, c) ∷ []) other) → IsAmong x (contents_of ys other) ⊎ ((other ≡ page) × (x ≡ c)))
        → IsAmong x (y.1 ∷ contents_of (ys ++ (page, c) ∷ []) other) → IsAmong x (y.1 ∷ contents_of ys other) ⊎ ((other ≡ page) × (x ≡ c))
    front more (inl e) = inl (inl e)
    front more (inr m) = elim (more m) [ inl a ↦ inl (inr a) | inr b ↦ inr b ]

pub older_write : (d : DeviceState) (page other : ℕ) (c x : List ℕ) → IsAmong x (older_on (written d page c) other) → IsAmong x (older_on d other) ⊎ ((other ≡ page) × (x ≡ c))
unfolding IsAmong
older_write d page other c x (inl e) = inl (inl e)
older_write d page other c x (inr h) = elim (written_push d.since page other c x h) [ inl a ↦ inl (inr a) | inr b ↦ inr b ]

overlaid_at : (fixed : List (List ℕ)) (xs : List (ℕ × List ℕ)) (page : ℕ) → InRange (length fixed) xs → get_or (overlay fixed xs) page [] ≡ newest_in xs page (get_or fixed page [])
unfolding overlay
overlaid_at fixed [] page r = refl
overlaid_at fixed (x ∷ xs) page r =
    overlaid_at (set fixed x.0 x.1) xs page (subst (λ n. InRange n xs) (sym (length-set fixed x.0 x.1)) r.1) ∙ ap (λ c. newest_in xs page c) here
  where
    here : get_or (set fixed x.0 x.1) page [] ≡ cond (eqb x.0 page) x.1 (get_or fixed page [])
    here = elim (cases_eq x.0 page) [
      | inl e ↦ rw (eq-eqb x.0 page e, ← e) (get_or-set_same fixed x.0 x.1 [] r.0)
      | inr ne ↦ rw (ne_eqb x.0 page ne) (get_or-set_other fixed x.0 page x.1 [] (λ e. ne (sym e)))
    ]

pub flush_newest : (d : DeviceState) (page : ℕ) → InRange (length d.fixed) d.since → newest_on (settled d) page ≡ newest_on d page
flush_newest d page r = overlaid_at d.fixed d.since page r

pub flush_older : (d : DeviceState) (page : ℕ) (x : List ℕ) → InRange (length d.fixed) d.since → IsAmong x (older_on (settled d) page) → x ≡ newest_on d page
unfolding IsAmong contents_of
flush_older d page x r (inl e) = e ∙ overlaid_at d.fixed d.since page r
flush_older d page x r (inr n) = absurd n

-- a content that was written to the page is one of those
among_written : (writes : List (ℕ × List ℕ)) (page : ℕ) (c : List ℕ) → WasWritten writes page c → IsAmong c (contents_of writes page)
unfolding WasWritten contents_of IsAmong
among_written [] page c h = absurd h
among_written (w ∷ ws) page c (inl h) = rw (eq-eqb w.0 page h.0) (inl (sym h.1))
among_written (w ∷ ws) page c (inr h) = elim (cases_Bool (eqb w.0 page)) [
  | inl e ↦ rw e (inr (among_written ws page c h))
  | inr off ↦ rw off (among_written ws page c h)
]

-- what a crash leaves of the device is possible at each page
pub image_possible : (d : DeviceState) (image : List (List ℕ)) (page : ℕ) → IsImage d image → IsAmong (get_or image page []) (older_on d page)
unfolding IsAmong
image_possible d image page is = elim (cases_lt page (length d.fixed)) [
  | inl lt ↦ elim (is.each page (get_or image page []) (slice_get-get_or image page [] (omega (arith, lt, is.pages)))) [
    | inl e ↦ inl (sym (get_or_from_slice_get d.fixed page (get_or image page []) [] e))
    | inr h ↦ inr (among_written d.since page (get_or image page []) h)
  ]
  | inr past ↦ inl (get_or_past image page [] (omega (arith, is.pages)) ∙ sym (get_or_past d.fixed page [] past))
]
