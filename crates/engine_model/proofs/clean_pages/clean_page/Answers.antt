use Rattle.engine_model.proofs.clean_pages.clean_page.Goals as goal
use Rattle.engine_model.proofs.CleanPages.{data_clean, forgets, page_clean, page_kinds}
use Rattle.std.proofs.Common.{sym}

pub returns : goal.returns
returns c = record {
  first = λ lay sound array w k. k.first_page.cached;
  table = λ lay top w page k t off. sym (k.marks_and_edges.clean page t off);
  data_page = λ lay sound array w page k is off. data_clean lay sound array w page k is off;
  each = λ lay top sound m k page is off. page_clean lay top sound m.array m.world page k.counts k.contents is off;
  every_page = page_kinds;
  forgets = λ lay top sound m k page is off. forgets m.world page (page_clean lay top sound m.array m.world page k.counts k.contents is off);
}
