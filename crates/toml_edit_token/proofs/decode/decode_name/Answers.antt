-- The name that was read is what the text spells.
use Rattle.std.specs.Cow.{cow_str_bytes}
use Rattle.toml_edit_token.proofs.Decoding.{if_ok_map, key_found, key_only}
use Rattle.toml_edit_token.proofs.decode.decode_name.Goals as goal

pub returns-clause-found : goal.returns-clause-found
returns-clause-found c = if_ok_map c.read_name.result _ _ (key_found cow_str_bytes c.args.text.now) c.read_name.ensures

pub returns-clause-only : goal.returns-clause-only
returns-clause-only c = if_ok_map c.read_name.result _ _ (key_only cow_str_bytes c.args.text.now) c.read_name.ensures
