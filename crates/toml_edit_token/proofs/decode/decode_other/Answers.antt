-- What was read as any other scalar is what the text spells.
use Rattle.toml_edit_token.specs.Decoded.{scalar_view}
use Rattle.toml_edit_token.proofs.Decoding.{if_ok_map, scalar_found, scalar_only}
use Rattle.toml_edit_token.proofs.decode.decode_other.Goals as goal

pub returns-clause-found : goal.returns-clause-found
returns-clause-found c = if_ok_map c.read_other.result _ _ (scalar_found scalar_view c.args.text.now) c.read_other.ensures

pub returns-clause-only : goal.returns-clause-only
returns-clause-only c = if_ok_map c.read_other.result _ _ (scalar_only scalar_view c.args.text.now) c.read_other.ensures
