use Rattle.std.proofs.Common.{◌≡◌, ℕ, ◌+◌, ◌*◌, ◌<◌, ◌==◌, not, min, refl, ◌∙◌, ap, arith}
use Rattle.page_layout.specs.Numbers.{entry_of}
use Rattle.page_layout.specs.Shape.{ShapeView}
use Rattle.array_model.specs.Counting.{count_below}
use Rattle.array_model.proofs.CountingLemmas.{count_below-most}
use Rattle.array_model.proofs.TableLemmas.{page_counted}
use Rattle.image_reader.specs.Tallies.{tally_of}
use Rattle.image_reader.proofs.tallies.tally_page.Goals as goal

pub count_names-requires-clause-within : goal.count_names-requires-clause-within
count_names-requires-clause-within c = λ i lt.
    let blocks = ap (λ (s : ShapeView). s.blocks) c.shape.view_is in
    omega (arith, c.requires.entries.used i (omega (arith, lt, c.used_entries-used.ensures.few)) (omega (arith, lt, c.used_entries-used.ensures.upto, blocks)), c.requires.length)

pub returns-clause-names : goal.returns-clause-names
returns-clause-names c = λ names are so_far.
    let blocks = c.args.shape.now.blocks in
    let j = c.args.j in
    let used = c.used_entries-used.result in
    let page = c.args.page.now in
    let few = c.used_entries-used.ensures.few in
    let upto : 1024 * j + used ≡ min blocks (1024 * (j + 1)) = omega (arith, c.used_entries-used.ensures.upto, ap (λ (s : ShapeView). s.blocks) c.shape.view_is) in
    let here : (i : ℕ) → i < used → names (1024 * j + i) ≡ entry_of page i = λ i lt. are.each i (omega (arith, lt, few)) in
    let named : c.args.mapped + c.count_names.result ≡ count_below (λ b. not (names b == 0)) (min blocks (1024 * (j + 1))) = page_counted names (entry_of page) blocks j used upto here (λ n. not (n == 0)) c.args.mapped c.count_names.result so_far.mapped_is c.count_names.ensures.named in
    record {
      named = λ p one le. c.count_names.ensures.names p one (omega (arith, so_far.named p one le, count_below-most (λ b. names b == p) (min blocks (1024 * j)), few, c.shape.invariant.few_blocks))
          ∙ page_counted names (entry_of page) blocks j used upto here (λ n. n == p) (tally_of c.args.tallies.now.items p) (count_below (λ i. entry_of page i == p) used) (so_far.named p one le) refl;
      mapped_is = omega (arith, named, c.saturating_add.ensures, count_below-most (λ b. not (names b == 0)) (min blocks (1024 * (j + 1))), c.shape.invariant.few_blocks);
    }
