-- The lists of a device, page by page: what a read gives, and all that a crash may leave.
use Rattle.std.specs.Prelude.{List, [], cond, eqb, get_or, ℕ, ◌<◌, ◌∷◌, ◌≡◌}
use Rattle.page_device.specs.Chosen.{contents_of}
use Rattle.page_device.specs.Disk.{DeviceState}
use Rattle.order_model.specs.World.{World}

abbrev pub fixed_at : DeviceState → ℕ → List ℕ
fixed_at d page = get_or d.fixed page []

-- what was written last to the page, or c
abbrev pub newest_in : List (ℕ × List ℕ) → ℕ → List ℕ → List ℕ
newest_in [] page c = c
newest_in (x ∷ xs) page c = newest_in xs page (cond (eqb x.0 page) x.1 c)

abbrev pub newest_on : DeviceState → ℕ → List ℕ
newest_on d page = newest_in d.since page (fixed_at d page)

abbrev pub older_on : DeviceState → ℕ → List (List ℕ)
older_on d page = fixed_at d page ∷ contents_of d.since page

-- each write was of a page that is there
abbrev pub InRange : ℕ → List (ℕ × List ℕ) → Type 0
InRange n [] = Unit {0}
InRange n (x ∷ xs) = (x.0 < n) × InRange n xs

-- the pages of the plain state are those of the device
pub record IsOver (d : DeviceState) (w : World) : Type 0 where
  pub newest : (page : ℕ) → w.newest page ≡ newest_on d page
  pub older : (page : ℕ) → w.older page ≡ older_on d page
