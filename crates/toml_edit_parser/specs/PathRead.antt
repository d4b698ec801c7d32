-- What reading the first key of a path returns, by the events of the path.
use Rattle.std.specs.Prelude.{◌≡◌, ℕ, ◌+◌, List, [], ◌∷◌, length, Option, Some, None, Result, Ok, Err}
use Rattle.std.specs.Cow.{cow_str_bytes}
use Rattle.toml_edit_model.specs.Syntax.{Segment}
use Rattle.toml_edit_model.specs.Paths.{next_start}
use Rattle.toml_edit_model.specs.Tree.{Decor, Key, unset}
use Rattle.toml_edit_model.specs.TreeOf.{spanned_form, dots_at}
use Rattle.toml_edit_error.specs.Fault.{IfToml}
use Rattle.toml_edit_error.specs.declared.toml_error.ParseFault.{ParseFault}
use Rattle.toml_edit_syntax.specs.ValueEvents.{path_events}
use Rattle.toml_edit_parser.specs.declared.key.PathKey.{PathKey}
use Rattle.toml_edit_parser.specs.declared.key.PathName.{PathName}
use Rattle.toml_edit_parser.specs.declared.key.KeyPath.{KeyPath}
use Rattle.toml_edit_parser.specs.PairRead.{first_before, leaf_of}
use Rattle.toml_edit_parser.specs.ValueRead.{span_at}

-- a path of these segments that begins at this byte, the last of which has this decor
abbrev pub IsPathFrom : Decor → ℕ → List Segment → KeyPath → Type 0
IsPathFrom own start p k =
    (leaf_of k ≡ own) × (k.before ≡ span_at start (first_before p))
    × (k.events.now ≡ path_events start p)

-- the key of a segment that begins at this byte
abbrev pub segment_key : Decor → ℕ → Segment → Key
segment_key own start s =
    let at = start + length s.before in
    record {
      name = s.key;
      spelling = Some (spanned_form.raw at s.spelled);
      leaf = own;
      dotted = dots_at spanned_form at s;
    }

-- the first key and the path after it
abbrev pub IsKeyBefore : Decor → ℕ → Segment → List Segment → Key → Option KeyPath → Type 0
IsKeyBefore own start s [] k None = k ≡ segment_key own start s
IsKeyBefore own start s (r ∷ p) k (Some path) =
    (k ≡ segment_key unset start s) × IsPathFrom own (next_start start s) (r ∷ p) path
IsKeyBefore own start s _ k _ = ⊥

abbrev pub IsFirstKey : Decor → ℕ → List Segment → PathKey → Type 0
IsFirstKey own start [] r = ⊥
IsFirstKey own start (s ∷ p) r =
    (r.span ≡ span_at (start + length s.before) s.spelled) × IsKeyBefore own start s p r.key r.rest

-- the result of reading it, which fails only if memory runs out
abbrev pub ReadsKey : Decor → ℕ → List Segment → Result PathKey ParseFault → Type 0
ReadsKey own start p (Ok r) = IsFirstKey own start p r
ReadsKey own start p (Err e) = IfToml e (λ r. ⊥)

-- the result of reading the name of that key alone, and the path after it
abbrev pub ReadsFirstName : Decor → ℕ → List Segment → Result PathName ParseFault → Type 0
ReadsFirstName own start p (Ok r) =
    (k : PathKey) × IsFirstKey own start p k × (k.key.name ≡ cow_str_bytes r.name)
    × (k.rest ≡ r.rest)
ReadsFirstName own start p (Err e) = IfToml e (λ r. ⊥)
