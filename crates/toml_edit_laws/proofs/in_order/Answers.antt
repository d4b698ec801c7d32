-- Tables in the order of headers; lines and pairs in order.
use Rattle.toml_edit_laws.proofs.common.InOrder.{headers-in-order}
use Rattle.toml_edit_laws.proofs.normal_texts.RankedLines.{lines-in-order, pairs-in-order}
use Rattle.toml_edit_laws.proofs.in_order.Goals as goal

pub returns : goal.returns
returns c = record { headers = headers-in-order; lines = lines-in-order; pairs = pairs-in-order }
