use Rattle.json.proofs.Printed.Trees.{document-print}
use Rattle.toml_edit_json.specs.Values.{json_value}
use Rattle.toml_edit_json.proofs.Numbers.{numbers}
use Rattle.toml_edit_json.proofs.laws.json_is_read.Goals as goal

pub returns : goal.returns
returns c = λ n made shallow. document-print (json_value n) (numbers n made) shallow
