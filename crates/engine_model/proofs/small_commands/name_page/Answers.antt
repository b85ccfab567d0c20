use Rattle.engine_model.proofs.small_commands.name_page.Goals as goal
use Rattle.engine_model.proofs.PageNamed.{named_page_keeps, names_page, page_name_frame}

pub returns : goal.returns
returns c = record {
  composed = names_page;
  frame = page_name_frame;
  kept = λ lay top sound apart m k l o p content can array gain. named_page_keeps lay apart m l o p content can top sound k array gain;
}
