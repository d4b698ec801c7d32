-- A key in owned form.
use Rattle.std.proofs.Common.{◌<◌, Some, length, slice_get, arith, ap, sym, subst, ◌∙◌}
use Rattle.std.proofs.lemmas.Option.{slice_get-get_or}
use Rattle.toml_edit_slots.specs.Slots.{names, items_of, on_key}
use Rattle.toml_edit_slots.specs.SlotIndex.{IsIndexed}
use Rattle.toml_edit_slots.proofs.SlotLaws.{on_key-is, names-set, items-set, apart-set, on_ok}
use Rattle.toml_edit_slots.proofs.slots.Slots.despan_key.Goals as goal
use Rattle.toml_edit_model.specs.OwnedForm.{owned_key}

pub despan-requires-clause-fits : goal.despan-requires-clause-fits
despan-requires-clause-fits g c =
    let es = c.self.inside.entries.items in
    let d = c.index_mut-spanned.result.now in
    let within : c.args.at < length es = omega (arith, c.requires.at, ap length c.self.view_is) in
    c.requires.fits d (ap (λ l. slice_get l c.args.at) (sym c.self.view_is) ∙ slice_get-get_or es c.args.at d within
    ∙ ap Some (sym c.index_mut-spanned.ensures.value))

pub despan-requires-clause-spelled : goal.despan-requires-clause-spelled
despan-requires-clause-spelled g c =
    let es = c.self.inside.entries.items in
    let d = c.index_mut-spanned.result.now in
    let within : c.args.at < length es = omega (arith, c.requires.at, ap length c.self.view_is) in
    c.requires.spelled d (ap (λ l. slice_get l c.args.at) (sym c.self.view_is) ∙ slice_get-get_or es c.args.at d within
    ∙ ap Some (sym c.index_mut-spanned.ensures.value))

pub invariant_of-self : goal.invariant_of-self
invariant_of-self g c =
    let d = c.index_mut-spanned.result.now in
    let same = c.despan.ensures.name ∙ ap (λ s. s.key.name) c.index_mut-spanned.ensures.value in
    let es = c.self.inside.entries.items in (
      apart-set es c.args.at d (record { key = c.despan.new.self; item = d.item }) same c.self.invariant.0,
      subst (IsIndexed c.self.inside.index) (sym (names-set es c.args.at d (record { key = c.despan.new.self; item = d.item }) same))
          c.self.invariant.1,
    )

pub returns-clause-names : goal.returns-clause-names
returns-clause-names g c =
    let d = c.index_mut-spanned.result.now in
    names-set c.self.inside.entries.items c.args.at d (record { key = c.despan.new.self; item = d.item })
    (c.despan.ensures.name ∙ ap (λ s. s.key.name) c.index_mut-spanned.ensures.value)
    ∙ ap names c.self.view_is

pub returns-clause-items : goal.returns-clause-items
returns-clause-items g c =
    let d = c.index_mut-spanned.result.now in
    items-set c.self.inside.entries.items c.args.at d (record { key = c.despan.new.self; item = d.item })
    (ap (λ s. s.item) c.index_mut-spanned.ensures.value)
    ∙ ap items_of c.self.view_is

pub returns-clause-ok : goal.returns-clause-ok
returns-clause-ok g c =
    let h = owned_key c.args.source.now in
    on_ok c.despan.result
    (λ done. on_key-is h c.self.inside.entries.items c.args.at c.index_mut-spanned.result.now c.despan.new.self
    c.index_mut-spanned.ensures.value done
    ∙ ap (on_key c.args.at h) c.self.view_is)
    c.despan.ensures.ok
