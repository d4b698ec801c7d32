-- The parts of a header, one after the other.
use Rattle.std.proofs.Common.{[], refl, ap, ◌∙◌}
use Rattle.std.specs.Option.{option_copied}
use Rattle.toml_edit_model.specs.Tree.{Decor, shown_side}
use Rattle.toml_edit_model.specs.Text.{has_byte, line_feed}
use Rattle.toml_edit_model.specs.Print.{header_default}
use Rattle.toml_edit_repr.specs.Modes.{mode_of}
use Rattle.toml_edit_io.proofs.Puts.{put_five}
use Rattle.toml_edit_tree.specs.Printing.{keys_on}
use Rattle.toml_edit.specs.HeadersView.{header_view}
use Rattle.toml_edit.proofs.HeaderLaws.{header-by-parts}
use Rattle.toml_edit.proofs.encode.put_header.Goals as goal

pub returns : goal.returns
returns g c =
    let h = c.args.header.now in
    put_five _ _ _ _ _ _ _ _ _ _ _ _ c.put_side_if.ensures c.put_side.ensures c.put_brackets.ensures c.put_side-2.ensures c.put.ensures
    (header-by-parts (mode_of c.args.mode) c.args.is_first (header_view h) (keys_on h.path.now) h.key.now refl _ _ _ _
    (c.has_newline-lifted.ensures (mode_of c.args.mode)
    ∙ ap (λ o. has_byte line_feed (shown_side (mode_of c.args.mode) [] o)) (c.prefix.ensures
    ∙ ap (λ (x : Decor). x.prefix) c.leaf_decor-leaf.ensures))
    (ap (shown_side (mode_of c.args.mode) []) (c.prefix-2.ensures ∙ ap (λ (x : Decor). x.prefix) c.leaf_decor-leaf.ensures))
    (ap (λ t. shown_side (mode_of c.args.mode) t (option_copied c.prefix-3.result)) c.before_header.ensures
    ∙ ap (shown_side (mode_of c.args.mode) (header_default c.args.is_first)) (c.prefix-3.ensures
    ∙ ap (λ (x : Decor). x.prefix) c.decor-decor.ensures))
    (ap (shown_side (mode_of c.args.mode) []) (c.suffix.ensures ∙ ap (λ (x : Decor). x.suffix) c.decor-decor.ensures)))
