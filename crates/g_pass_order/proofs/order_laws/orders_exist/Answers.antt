use Rattle.g_pass_order.proofs.OrdersExist.{orders_exist}
use Rattle.g_pass_order.proofs.order_laws.orders_exist.Goals as goal

pub returns : goal.returns
returns c = orders_exist
