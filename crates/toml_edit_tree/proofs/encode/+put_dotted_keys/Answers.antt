-- One more key, with its dot.
use Rattle.std.proofs.Common.{◌≡◌, true, [], ◌∷◌, ◌++◌, codes, sym, ap, ◌∙◌}
use Rattle.std.specs.Option.{option_copied}
use Rattle.toml_edit_model.specs.Tree.{Decor, key_text, shown_side, shown_suffix}
use Rattle.toml_edit_model.specs.Print.{dot_suffix}
use Rattle.toml_edit_repr.specs.Modes.{mode_of}
use Rattle.toml_edit_io.proofs.Puts.{put_five}
use Rattle.toml_edit_tree.specs.Printing.{keys_on}
use Rattle.toml_edit_laws.proofs.print_by_visits.KeyTexts.{dotted_keys-more}
use Rattle.toml_edit_tree.proofs.encode.+put_dotted_keys.Goals as goal
use Rattle.toml_edit_laws.specs.PrintByVisits.{before_key, dotted_keys}

pub returns-in-Under : goal.returns-in-Under
returns-in-Under g t c =
    let up = keys_on c.in-Under.up.now in
    let k = c.in-Under.key.now in
    let keys : keys_on c.args.path.now ≡ up ++ (k ∷ []) = ap keys_on c.in-Under.is in
    let side : shown_side (mode_of c.args.mode) [] (option_copied c.suffix.result) ≡ dot_suffix (mode_of c.args.mode) k =
    ap (shown_side (mode_of c.args.mode) []) c.suffix.ensures
    ∙ ap (λ (d : Decor). shown_suffix (mode_of c.args.mode) [] d) c.dotted_decor.ensures in
    put_five _ _ _ _ _ _ _ _ _ _ _ _ c.put_dotted_keys.ensures c.put_before_key.ensures c.put_key_text.ensures c.put_side.ensures
    c.put.ensures
    (ap (λ s. dotted_keys (mode_of c.args.mode) true up ++ (before_key (mode_of c.args.mode) up k ++ (key_text k ++ (s ++ codes ".")))) side
    ∙ sym (dotted_keys-more (mode_of c.args.mode) up k) ∙ ap (dotted_keys (mode_of c.args.mode) true) (sym keys))
