-- The faults of programs that edit texts.
use Rattle.std.proofs.Common.{◌≡◌, refl, sym, subst, false, Option, Some, None, Result}
use Rattle.std.specs.Prelude.{IfErr, IsErrAnd, is_some}
use Rattle.std.proofs.lemmas.Result.{err_from_is_err_and}
use Rattle.toml_edit.specs.Documents.{IsOwnedReading, IsRefusal}
use Rattle.toml_edit.specs.error.Fault.{IfToml}
use Rattle.toml_edit.specs.error.declared.toml_error.ParseFault as parsing
use Rattle.toml_edit.specs.error.declared.toml_error.ParseFault.TheVariants as parsings
use Rattle.toml_edit.specs.model.Lists.{slot_list}
use Rattle.toml_edit.specs.model.Text.{Text}
use Rattle.toml_edit.specs.model.Tree.{Tree}
use Rattle.example_calls.specs.Faults.{ExchangeFails, RemovalFails, SetFails, SlotsStay}
use Rattle.example_calls.specs.Faults.{parsing_fault}
use Rattle.example_calls.specs.declared.fault.EditFault.{EditFault}
use Rattle.example_calls.specs.declared.fault.EditFault.TheVariants.{Toml, Memory, Missing, Present}

pub none-of : {X : Type 0} (o : Option X) → is_some o ≡ false → o ≡ None
none-of None h = refl
none-of (Some x) h = absurd cc

-- the error of a `?` is the one that it was made of
pub passed-on : {T E : Type 0} (r : Result T E) (e : E) (P : E → Type 0) → IsErrAnd r (λ y. y ≡ e) → P e → IfErr r P
passed-on r e P h p =
    let q = err_from_is_err_and r h in
    subst (λ x. IfErr x P) (sym q.1) (subst P (sym q.2) p)

-- ---- a text that is refused

pub refusal-set : (text name key : Text) (p : parsing.ParseFault) → IfToml p (IsRefusal text) → SetFails text name key (parsing_fault p)
refusal-set text name key (parsings.Toml r) h = h
refusal-set text name key parsings.Memory h = tt

pub refusal-exchange : (text name key : Text) (p : parsing.ParseFault) → IfToml p (IsRefusal text)
    → ExchangeFails text name key (parsing_fault p)
refusal-exchange text name key (parsings.Toml r) h = h
refusal-exchange text name key parsings.Memory h = tt

pub refusal-removal : (text name : Text) (p : parsing.ParseFault) → IfToml p (IsRefusal text) → RemovalFails text name (parsing_fault p)
refusal-removal text name (parsings.Toml r) h = h
refusal-removal text name parsings.Memory h = tt

-- ---- a table and a key that stay

pub stays-exchange : (text name key : Text) (t : Tree) → IsOwnedReading text t
    → (e : EditFault) → SlotsStay name key (slot_list t.slots) e → ExchangeFails text name key e
stays-exchange text name key t r Memory h = tt
stays-exchange text name key t r Missing h = (t, r, h)
stays-exchange text name key t r Present h = (t, r, h)
stays-exchange text name key t r (Toml x) h = absurd h
