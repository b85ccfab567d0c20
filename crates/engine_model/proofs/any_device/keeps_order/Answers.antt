use Rattle.engine_model.proofs.any_device.keeps_order.Goals as goal
use Rattle.engine_model.proofs.Ordering.{barred_order, barrier_order, give_up_order, name_order, order_order, put_order, queue_order, take_order, touch_order, write_order}

pub returns : goal.returns
returns c = record {
  touch = λ lay w page k. touch_order lay w k page;
  put = λ lay w page c k. put_order lay w k page c;
  order = λ lay w a b kind dirty k. order_order lay w k a b kind dirty;
  order_by_barrier = λ lay w a b kind k. barred_order lay w k a b kind;
  name = λ lay known w l o c lt d dirty k. name_order lay w k known l o c lt d dirty;
  lower = λ lay w page c rs fewer k. queue_order lay w k page c rs fewer;
  give_up = λ lay apart w p d k. give_up_order lay w k apart p d;
  write = λ lay w page k. write_order lay w k page;
  take = λ lay w page k. take_order lay w k page;
  barrier = λ lay w k. barrier_order lay w k;
}
