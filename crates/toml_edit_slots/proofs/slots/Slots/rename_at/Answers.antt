-- A new name in the place of another.
use Rattle.std.proofs.Common.{◌≡◌, None, ◌∙◌, ap, set, sym, subst}
use Rattle.std.specs.List.{IsDistinct}
use Rattle.toml_edit_model.specs.Text.{same_text}
use Rattle.toml_edit_slots.specs.Renaming.{with_decors_of}
use Rattle.toml_edit_slots.specs.SlotIndex.{IsIndexed, MayIndex}
use Rattle.toml_edit_slots.specs.Slots.{names, place}
use Rattle.toml_edit_slots.proofs.RenameLaws.{distinct-set, names-renamed}
use Rattle.toml_edit_slots.proofs.slots.Slots.rename_at.Goals as goal

pub index_those-requires-clause-apart : goal.index_those-requires-clause-apart
index_those-requires-clause-apart g c =
    let es = c.self.inside.entries.items in
    let t = c.args.name.now in
    let new : place t es ≡ None = ap (place t) c.self.view_is ∙ c.requires.new in
    let is : names c.deref-2.result.now ≡ set (names es) c.args.at t =
    ap names (c.deref-2.ensures.value ∙ c.replace_key.ensures)
    ∙ names-renamed (with_decors_of c.in_ok-key.key) t (λ k. ap (λ x. x.name) c.in_ok-key.ensures) es c.args.at in
    subst (IsDistinct same_text) (sym is) (distinct-set (names es) c.args.at t new c.self.invariant.0)

pub index_those-requires-clause-named : goal.index_those-requires-clause-named
index_those-requires-clause-named g c =
    let es = c.self.inside.entries.items in
    let t = c.args.name.now in
    let is : names c.deref-2.result.now ≡ set (names c.deref.result.now) c.args.at t =
    ap names (c.deref-2.ensures.value ∙ c.replace_key.ensures)
    ∙ names-renamed (with_decors_of c.in_ok-key.key) t (λ k. ap (λ x. x.name) c.in_ok-key.ensures) es c.args.at
    ∙ ap (λ l. set (names l) c.args.at t) (sym c.deref.ensures.value) in
    subst (MayIndex c.add_name.new.index) (sym is) (c.in_ok-add_name.ensures.ok c.args.at)

pub invariant_of-self-2 : goal.invariant_of-self-2
invariant_of-self-2 g c =
    let es = c.self.inside.entries.items in
    let t = c.args.name.now in
    let new : place t es ≡ None = ap (place t) c.self.view_is ∙ c.requires.new in
    let is : names c.replace_key.new.entries.items ≡ set (names es) c.args.at t =
    ap names c.replace_key.ensures ∙ names-renamed (with_decors_of c.in_ok-key.key) t (λ k. ap (λ x. x.name) c.in_ok-key.ensures) es
    c.args.at in (
      subst (IsDistinct same_text) (sym is) (distinct-set (names es) c.args.at t new c.self.invariant.0),
      subst (λ l. IsIndexed c.index_those.new.index (names l)) c.deref-2.ensures.value c.index_those.ensures,
    )
