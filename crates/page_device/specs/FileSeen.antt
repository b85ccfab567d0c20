-- What a file tells: its number of pages and its counts of faults and of calls, and no content.
use Rattle.std.specs.Prelude.{◌≡◌, ℕ, [], false, true}
use Rattle.page_device.specs.Meaning.{Meaning}

abbrev pub file_seen : ℕ → ℕ → ℕ → Meaning
file_seen pages faults calls = record {
  honest = false;
  tells_pages = false;
  tells_log = false;
  tells_reads = false;
  pages = pages;
  faults = faults;
  calls = calls;
  reads = 0;
  state = record { fixed = []; since = [] };
  log = [];
}

-- it tells no page
pub no_pages : (pages : ℕ) → false ≡ true → 0 ≡ pages
no_pages pages h = absurd (cc)
