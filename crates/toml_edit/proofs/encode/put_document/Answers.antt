-- The parts, with the headers in order, are the print.
use Rattle.std.proofs.Common.{[], map, refl, ap, ◌∙◌}
use Rattle.toml_edit_model.specs.Tree.{Decor, shown_side}
use Rattle.toml_edit_laws.specs.PrintByVisits.{headers_text}
use Rattle.toml_edit_repr.specs.Modes.{mode_of}
use Rattle.toml_edit_io.proofs.Puts.{put_five}
use Rattle.toml_edit_tree.specs.View.{tree_view}
use Rattle.toml_edit.specs.HeadersView.{header_view}
use Rattle.toml_edit.proofs.HeaderLaws.{print-by-texts}
use Rattle.toml_edit.proofs.encode.put_document.Goals as goal

pub returns : goal.returns
returns g c =
    let m = mode_of c.args.mode in
    let hs = map header_view c.args.headers.now in
    put_five _ _ _ _ _ _ _ _ _ _ _ _ c.put_side.ensures c.put_root_lines.ensures c.put_headers.ensures c.put_side-2.ensures
    c.put_raw.ensures
    (print-by-texts m (tree_view c.args.root.now c.args.trailing.now) _ _ _ _ _
    (ap (shown_side m []) (c.prefix.ensures ∙ ap (λ (x : Decor). x.prefix) c.decor.ensures))
    refl (ap (λ b. headers_text m b hs) c.headers_begin.ensures ∙ c.requires)
    (ap (shown_side m []) (c.suffix.ensures ∙ ap (λ (x : Decor). x.suffix) c.decor-2.ensures))
    refl)
