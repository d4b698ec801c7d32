-- What edits that are made leave: their meaning, and the other statements.
use Rattle.std.proofs.Common.{◌≡◌, ap, List, [], ◌∷◌, take}
use Rattle.std.specs.Prelude.{Err, Ok, OnOk, Result}
use Rattle.toml_edit_model.specs.Mode.{Mode}
use Rattle.toml_edit_model.specs.Tree.{Tree}
use Rattle.toml_edit_edits.specs.Edited.{EditsLeave}
use Rattle.toml_edit_edits.specs.Lists.{Applies, applied, effect, made_of}
use Rattle.toml_edit_edits.specs.Means.{EditsMean, MadeMeans}
use Rattle.toml_edit_edits.specs.OthersStay.{AppliedStay}
use Rattle.toml_edit_edits.specs.Outcomes.{Makes, and_then}
use Rattle.toml_edit_edits.specs.declared.edit.Edit.{Edit}
use Rattle.toml_edit_edits.specs.declared.fault.EditFault.{EditFault}
use Rattle.toml_edit_edits.specs.declared.fault.ScriptFault.{ScriptFault}
use Rattle.toml_edit_edits.proofs.MoveLaws.{went}

edits-mean : MadeMeans → (es : List Edit) (t u : Tree) → applied es t ≡ Ok u → EditsMean es t u
edits-mean means [] t u h = let e : ◌≡◌ {A = Result Tree EditFault} (Ok t) (Ok u) = h in cc
edits-mean means (e ∷ es) t u h =
    let x = went (applied es) (effect e t) u h in
    (x.0, x.1, (λ made. means e t x.0 made x.1), edits-mean means es x.0 u x.2)

module _ (stay : (mode : Mode) → AppliedStay mode) (means : MadeMeans) where
  edits-leave : (es : List Edit) (t u : Tree) → applied es t ≡ Ok u → EditsLeave es t u
  edits-leave es t u h = record { applied = h; means = edits-mean means es t u h; stays = λ mode. stay mode es t u h }

  pub all-leave : (es : List Edit) (old new : Tree) (r : Result (Unit {0}) ScriptFault) → Applies es old new r → EditsLeave (made_of es r) old new
  all-leave es old new (Ok v) h = edits-leave es old new h
  all-leave es old new (Err f) h = edits-leave (take f.at es) old new h.2

  pub one-leaves : (e : Edit) (old new : Tree) (r : Result (Unit {0}) EditFault) → Makes (effect e old) old new r
      → OnOk r (EditsLeave (e ∷ []) old new)
  one-leaves e old new (Ok v) h = edits-leave (e ∷ []) old new (ap (and_then (applied [])) h)
  one-leaves e old new (Err f) h = tt
