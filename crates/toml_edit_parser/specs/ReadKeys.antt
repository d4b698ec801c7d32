-- What reading a lone key or a lone path gives.
use Rattle.std.specs.Prelude.{◌≡◌, List, Vec, None, Some, Result, IfErr, IfOk, MatchResult}
use Rattle.std.specs.declared.alloc.Global.{Global}
use Rattle.toml_edit_model.specs.Text.{Text}
use Rattle.toml_edit_model.specs.Syntax.{Segment}
use Rattle.toml_edit_model.specs.Faults.{recursion_limit}
use Rattle.toml_edit_model.specs.Lone.{IsLonePath, IsLongPath, MayRefuseKey, MayRefusePath, lone_keys}
use Rattle.toml_edit_model.specs.Spelling.{SpellsKey}
use Rattle.toml_edit_model.specs.Tree.{Key, owned, unset}
use Rattle.toml_edit_error.specs.Fault.{IfToml}
use Rattle.toml_edit_error.specs.Report.{Report, fault_of}
use Rattle.toml_edit_error.specs.declared.toml_error.ParseFault.{ParseFault}
use Rattle.toml_edit_error.specs.declared.toml_error.ParseFault.TheVariants.{Memory}

-- the key of this name that is spelled so and has no decor
abbrev pub lone_key : Text → Text → Key
lone_key k t = record { name = k; spelling = Some (owned t); leaf = unset; dotted = unset }

-- the result is this value, unless memory ran out
abbrev pub GivesValue : {A B : Type 0} → (A → B) → Result A ParseFault → B → Type 0
GivesValue view r b = MatchResult r (λ a. view a ≡ b) (λ e. e ≡ Memory)

-- the error is about the number of segments
abbrev pub limit_fault : Text → Report
limit_fault t = record { message = recursion_limit; span = None; input = t }

-- the text is a lone path, and these are its keys
abbrev pub AreLoneKeys : Text → List Key → Type 0
AreLoneKeys t ks =
    (before : Text) × (p : List Segment) × (after : Text) × IsLonePath t before p after
    × (ks ≡ lone_keys before p after)

-- what parsing a lone key returns: the key that the text spells; out of memory alone where it
-- spells one; a report
pub record ReadsLoneKey (t : Text) (r : Result Key ParseFault) : Type 0 where
  pub key : IfOk r (λ key. SpellsKey key.name t × (key ≡ lone_key key.name t))
  pub every : (k : Text) → SpellsKey k t → GivesValue (λ key. key) r (lone_key k t)
  pub refused : IfErr r (λ e. IfToml e (λ r. MayRefuseKey (fault_of r) × (r.input ≡ t)))

-- what parsing a lone path returns: the path's keys; out of memory alone where the text is a path;
-- a report
pub record ReadsLonePath (t : Text) (r : Result (Vec Key Global) ParseFault) : Type 0 where
  pub keys : IfOk r (λ keys. AreLoneKeys t keys.items)
  pub every : (before : Text) (p : List Segment) (after : Text) → IsLonePath t before p after
      → GivesValue (λ keys. keys.items) r (lone_keys before p after)
  pub long : (before : Text) (p : List Segment) (after : Text) → IsLongPath t before p after
      → MatchResult r (λ _. ⊥) (λ e. IfToml e (λ r. r ≡ limit_fault t))
  pub refused : IfErr r (λ e. IfToml e (λ r. MayRefusePath t (fault_of r) × (r.input ≡ t)))
