-- A key of the same name.
use Rattle.std.proofs.Common.{◌≡◌, Some, ◌∙◌, ap, sym, subst}
use Rattle.std.specs.List.{IsDistinct}
use Rattle.toml_edit_model.specs.Text.{same_text}
use Rattle.toml_edit_slots.specs.Renaming.{with_decors_of}
use Rattle.toml_edit_slots.specs.SlotIndex.{IsIndexed}
use Rattle.toml_edit_slots.specs.Slots.{names, place}
use Rattle.toml_edit_slots.proofs.IndexLaws.{place_in-is}
use Rattle.toml_edit_slots.proofs.RenameLaws.{names-renamed, set-same}
use Rattle.toml_edit_slots.proofs.SlotLaws.{place-within}
use Rattle.toml_edit_slots.proofs.slots.Slots.respell_at.Goals as goal

pub replace_key-requires : goal.replace_key-requires
replace_key-requires g c =
    place-within c.args.name.now c.self.inside.entries.items c.args.at (ap (place c.args.name.now) c.self.view_is ∙ c.requires)

pub invariant_of-self : goal.invariant_of-self
invariant_of-self g c =
    let es = c.self.inside.entries.items in
    let t = c.args.name.now in
    let at : place t es ≡ Some c.args.at = ap (place t) c.self.view_is ∙ c.requires in
    let same : names c.replace_key.new.entries.items ≡ names es =
    ap names c.replace_key.ensures
    ∙ names-renamed (with_decors_of c.in_ok-key.key) t (λ k. ap (λ x. x.name) c.in_ok-key.ensures) es c.args.at
    ∙ set-same (names es) c.args.at t (place_in-is t (names es) c.args.at at) in
    (subst (IsDistinct same_text) (sym same) c.self.invariant.0, subst (IsIndexed c.self.inside.index) (sym same) c.self.invariant.1)
