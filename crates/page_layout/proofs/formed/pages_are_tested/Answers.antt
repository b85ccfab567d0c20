use Rattle.page_layout.proofs.FormedPages.{formed_at, formed_count, formed_map, formed_print}
use Rattle.page_layout.proofs.formed.pages_are_tested.Goals as goal

pub returns : goal.returns
returns c = record {
  page = formed_at;
  map = formed_map;
  count = formed_count;
  print = formed_print;
}
