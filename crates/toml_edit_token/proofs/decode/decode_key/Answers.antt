-- What was read as a key is what the text spells.
use Rattle.std.specs.Prelude.{string_bytes}
use Rattle.toml_edit_token.proofs.Decoding.{if_ok_map, key_found, key_only}
use Rattle.toml_edit_token.proofs.decode.decode_key.Goals as goal

pub returns-clause-found : goal.returns-clause-found
returns-clause-found c = if_ok_map c.read_key.result _ _ (key_found string_bytes c.args.text.now) c.read_key.ensures

pub returns-clause-only : goal.returns-clause-only
returns-clause-only c = if_ok_map c.read_key.result _ _ (key_only string_bytes c.args.text.now) c.read_key.ensures
