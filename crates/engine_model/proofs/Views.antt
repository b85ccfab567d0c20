-- The tables' entries in two states that have the same pages.
use Rattle.std.proofs.Common.{◌≡◌, ◌<◌, ℕ, List, Some, None, eqb, ap}
use Rattle.order_model.specs.World.{Layout, World}
use Rattle.engine_model.specs.Entries.{cached_name, cached_count, cached_print, cached_names, newest_name, newest_count, newest_print}
use Rattle.engine_model.proofs.Counting.{count_ext}

pub none_some : (x : List ℕ) → None ≡ Some x → ⊥
none_some x e = cc

pub some_is : (a b : List ℕ) → Some a ≡ Some b → a ≡ b
some_is a b e = cc

-- as many blocks name p where each block in range has its name
pub names_by : (lay : Layout) (w v : World) → ((l : ℕ) → l < lay.blocks → cached_name lay v l ≡ cached_name lay w l) → (p : ℕ) → cached_names lay v p ≡ cached_names lay w p
names_by lay w v same p = count_ext lay.blocks (λ l. eqb (cached_name lay v l) p) (λ l. eqb (cached_name lay w l) p) (λ l lt. ap (λ n. eqb n p) (same l lt))

module _ (lay : Layout) (w v : World) (same : (page : ℕ) → v.cached page ≡ w.cached page) where
  pub name_same : (l : ℕ) → cached_name lay v l ≡ cached_name lay w l
  name_same l = ap (λ c. lay.name_in c l) (same (lay.map_page l))

  pub count_same : (p : ℕ) → cached_count lay v p ≡ cached_count lay w p
  count_same p = ap (λ c. lay.count_in c p) (same (lay.count_page p))

  pub print_same : (p : ℕ) → cached_print lay v p ≡ cached_print lay w p
  print_same p = ap (λ c. lay.print_in c p) (same (lay.print_page p))

  pub names_same : (p : ℕ) → cached_names lay v p ≡ cached_names lay w p
  names_same = names_by lay w v (λ l lt. name_same l)

pub newest_name_same : (lay : Layout) (w v : World) (l : ℕ) → v.newest (lay.map_page l) ≡ w.newest (lay.map_page l) → newest_name lay v l ≡ newest_name lay w l
newest_name_same lay w v l e = ap (λ c. lay.name_in c l) e

pub newest_count_same : (lay : Layout) (w v : World) (p : ℕ) → v.newest (lay.count_page p) ≡ w.newest (lay.count_page p) → newest_count lay v p ≡ newest_count lay w p
newest_count_same lay w v p e = ap (λ c. lay.count_in c p) e

pub newest_print_same : (lay : Layout) (w v : World) (p : ℕ) → v.newest (lay.print_page p) ≡ w.newest (lay.print_page p) → newest_print lay v p ≡ newest_print lay w p
newest_print_same lay w v p e = ap (λ c. lay.print_in c p) e
