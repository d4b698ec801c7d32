-- What was read of a word, and why none was.
use Rattle.std.proofs.Common.{◌≡◌, ◌⊎◌, ◌∙◌, ap, sym, true, inl, inr, List, Result, Ok, Err, IfErr, IfOk}
use Rattle.std.specs.Prelude.{Vec, IsErrOf, IsOk}
use Rattle.std.specs.declared.alloc.Global.{Global}
use Rattle.toml_edit_model.specs.Keys.{names}
use Rattle.toml_edit_model.specs.Lone.{IsLonePath, IsLoneValue, is_accepted_value_in, lone_keys}
use Rattle.toml_edit_model.specs.Syntax.{Segment, Value}
use Rattle.toml_edit_model.specs.Text.{Text}
use Rattle.toml_edit_model.specs.Tree.{Key}
use Rattle.toml_edit_model.specs.Version.{Version}
use Rattle.toml_edit_error.specs.Fault.{IfToml}
use Rattle.toml_edit_error.specs.declared.toml_error.ParseFault.{ParseFault}
use Rattle.toml_edit_error.specs.declared.toml_error.ParseFault.TheVariants as faults
use Rattle.toml_edit_parser.specs.ReadKeys.{AreLoneKeys, GivesValue}
use Rattle.toml_edit_words.specs.Spelled.{IsNoPath, IsNoValue, SpellsPath}
use Rattle.toml_edit_words.proofs.Keys.{lone-names}

-- ---- paths

-- what is read of a path is its keys, and no report is of one
abbrev pub ReadsEach : Text → Result (Vec Key Global) ParseFault → Type 0
ReadsEach t r =
    (before : Text) (p : List Segment) (after : Text) → IsLonePath t before p after
    → GivesValue (λ keys. keys.items) r (lone_keys before p after)

pub path-spelled : (t : Text) (r : Result (Vec Key Global) ParseFault) → IfOk r (λ keys. AreLoneKeys t keys.items)
    → IfOk r (λ keys. SpellsPath t (names keys.items))
path-spelled t (Ok keys) k = (k.0, k.1, k.2, k.3, ap names k.4 ∙ lone-names k.0 k.1 k.2)
path-spelled t (Err fault) k = tt

pub path-only : (t : Text) (r : Result (Vec Key Global) ParseFault) → ReadsEach t r → (path : List Text) → SpellsPath t path
    → IfOk r (λ keys. names keys.items ≡ path)
path-only t (Ok keys) every path s = ap names (every s.0 s.1 s.2 s.3) ∙ lone-names s.0 s.1 s.2 ∙ sym s.4
path-only t (Err fault) every path s = tt

pub path-refused : (t : Text) (r : Result (Vec Key Global) ParseFault) → ReadsEach t r
    → IfErr r (λ fault. IfToml fault (λ _. IsNoPath t))
path-refused t (Ok keys) every = tt
path-refused t (Err (faults.Toml report)) every = λ path s. let memory = every s.0 s.1 s.2 s.3 in absurd cc
path-refused t (Err faults.Memory) every = tt

-- ---- values

module _ {V : Type 0} (version : Version) (t : Text) where
  pub value-refused : (r : Result V ParseFault)
      → ((v : Value) → IsLoneValue t v → is_accepted_value_in version v ≡ true → IsOk r ⊎ IsErrOf r faults.Memory)
      → IfErr r (λ fault. IfToml fault (λ _. IsNoValue version t))
  value-refused (Ok v) every = tt
  value-refused (Err (faults.Toml report)) every = λ n s. elim (every s.0 s.1 s.2) [ inl ok ↦ absurd cc | inr memory ↦ absurd cc ]
  value-refused (Err faults.Memory) every = tt
