-- What a mention says but for its spelling and its place, and that kept segments have the keys of their own.
use Rattle.std.proofs.Common.{◌≡◌, refl, sym, ◌∙◌, ap, subst, ℕ, ◌+◌, true, List, [], ◌∷◌, Option, Some, None}
use Rattle.std.specs.Prelude.{map, find, flat_map, option_map, unwrap_or}
use Rattle.std.specs.List.{AllByRecursion}
use Rattle.toml_edit_model.specs.Text.{Text}
use Rattle.toml_edit_model.specs.Syntax.{Segment, Statement, key_line, header}
use Rattle.toml_edit_model.specs.Paths.{Path, same_path, to_key, passing_role, Mention, Context, next_start, line_mentions, elements_at}
use Rattle.toml_edit_model.specs.Paths.{in_last, header_mentions, header_path, header_role_of, path_start, source_of, mentions_of}
use Rattle.toml_edit_model.specs.Paths.{context_after, placed_from}
use Rattle.toml_edit_laws.proofs.common.PathLaws.{same_path-is}
use Rattle.toml_edit_laws.proofs.clashes.ClashKept.{find-all}
use Rattle.toml_edit_laws.proofs.common.Cores.{Core, cores, keys_of_segments, line_cores}
use Rattle.toml_edit_laws.proofs.common.Each.{all-append, all_pass}
use Rattle.toml_edit_model.specs.Roles.{Role, dotted_role, is_header_role}
use Rattle.toml_edit_model.specs.Kept.{mentions_at, first_of_list, kept_mention, kept_segment, unspaced_end, unspaced_ends, kept_path}
use Rattle.toml_edit_model.specs.Settled.{own_path}
use Rattle.std.specs.Option.{option_or}

-- ---- cores

abbrev pub header_cores : List Path → Role → Path → List Text → List Core
header_cores arrays role p [] = []
header_cores arrays role p (k ∷ []) = (to_key p k, role) ∷ []
header_cores arrays role p (k ∷ l ∷ rest) =
    let here = to_key p k in
    let count = elements_at arrays here in
    (here, passing_role count) ∷ header_cores arrays role (in_last count here) (l ∷ rest)

abbrev pub header_place : List Path → Path → List Text → Path
header_place arrays p [] = p
header_place arrays p (k ∷ []) = to_key p k
header_place arrays p (k ∷ l ∷ rest) =
    let here = to_key p k in
    header_place arrays (in_last (elements_at arrays here) here) (l ∷ rest)

pub line-cores : {S : Type 0} (source : S) (start : ℕ) (p : Path) (ss : List Segment) → cores (line_mentions source start p ss)
    ≡ line_cores p (keys_of_segments ss)
line-cores source start p [] = refl
line-cores source start p (s ∷ []) = refl
line-cores source start p (s ∷ r ∷ rest) =
    ap (λ cs. (to_key p s.key, dotted_role) ∷ cs) (line-cores source (next_start start s) (to_key p s.key) (r ∷ rest))

pub header-cores : {S : Type 0} (source : S) (arrays : List Path) (role : Role) (start : ℕ) (p : Path) (ss : List Segment)
    → cores (header_mentions source arrays role start p ss) ≡ header_cores arrays role p (keys_of_segments ss)
header-cores source arrays role start p [] = refl
header-cores source arrays role start p (s ∷ []) = refl
header-cores source arrays role start p (s ∷ r ∷ rest) =
    let here : Path = to_key p s.key in
    ap (λ cs. (here, passing_role (elements_at arrays here)) ∷ cs)
    (header-cores source arrays role (next_start start s) (in_last (elements_at arrays here) here) (r ∷ rest))

pub header-place : (arrays : List Path) (p : Path) (ss : List Segment) → header_path arrays p ss
    ≡ header_place arrays p (keys_of_segments ss)
header-place arrays p [] = refl
header-place arrays p (s ∷ []) = refl
header-place arrays p (s ∷ r ∷ rest) =
    let here : Path = to_key p s.key in
    header-place arrays (in_last (elements_at arrays here) here) (r ∷ rest)

-- ---- paths that end in the key of their segment

abbrev pub IsKeyed : {S : Type 0} → Mention S → Type 0
IsKeyed m = (q : Path) × (m.path ≡ to_key q m.segment.key)

abbrev pub AreKeyed : {S : Type 0} → List (Mention S) → Type 0
AreKeyed ms = AllByRecursion IsKeyed ms

pub line-keyed : {S : Type 0} (source : S) (start : ℕ) (p : Path) (ss : List Segment) → AreKeyed (line_mentions source start p ss)
line-keyed source start p [] = tt
line-keyed source start p (s ∷ []) = ((p, refl), tt)
line-keyed source start p (s ∷ r ∷ rest) = ((p, refl), line-keyed source (next_start start s) (to_key p s.key) (r ∷ rest))

pub header-keyed : {S : Type 0} (source : S) (arrays : List Path) (role : Role) (start : ℕ) (p : Path) (ss : List Segment)
    → AreKeyed (header_mentions source arrays role start p ss)
header-keyed source arrays role start p [] = tt
header-keyed source arrays role start p (s ∷ []) = ((p, refl), tt)
header-keyed source arrays role start p (s ∷ r ∷ rest) =
    let here : Path = to_key p s.key in
    ((p, refl), header-keyed source arrays role (next_start start s) (in_last (elements_at arrays here) here) (r ∷ rest))

pub statement-keyed : (c : Context) (s : Statement) → AreKeyed (mentions_of c s)
statement-keyed c (key_line f v end) =
    line-keyed (source_of c (key_line f v end)) (c.start + path_start (key_line f v end)) c.block f.path
statement-keyed c (header h end) =
    header-keyed (source_of c (header h end)) c.arrays (header_role_of h) (c.start + path_start (header h end)) [] h.path

pub placed-keyed : (c : Context) (ss : List Statement) → AreKeyed (flat_map (λ m. m) (map (λ s. s.mentions) (placed_from c ss)))
placed-keyed c [] = tt
placed-keyed c (s ∷ ss) =
    all-append IsKeyed (mentions_of c s) (flat_map (λ m. m) (map (λ r. r.mentions) (placed_from (context_after c s) ss)))
    (statement-keyed c s) (placed-keyed (context_after c s) ss)

pub key-end : (p q : Path) (k l : Text) → to_key p k ≡ to_key q l → k ≡ l
key-end [] [] k l h = cc
key-end [] (t ∷ []) k l h = absurd cc
key-end [] (t ∷ u ∷ q) k l h = absurd cc
key-end (s ∷ []) [] k l h = absurd cc
key-end (s ∷ u ∷ p) [] k l h = absurd cc
key-end (s ∷ p) (t ∷ q) k l h = (let rest : to_key p k ≡ to_key q l = cc in key-end p q k l rest)

-- ---- kept mentions

-- the kept mention of a path is one of the mentions, at that path
pub kept-holds : {S : Type 0} (P : Mention S → Type 0) (ms : List (Mention S)) (p : Path) (k : Mention S) → AllByRecursion P ms
    → kept_mention ms p ≡ Some k → P k × (same_path p k.path ≡ true)
kept-holds {S = S} P ms p k h e =
    by_header (find (λ m. is_header_role m.role) (mentions_at ms p)) refl (first_of_list (mentions_at ms p)) refl e
  where
    each : AllByRecursion (λ m. P m × (same_path p m.path ≡ true)) (mentions_at ms p)
    each = all_pass P (λ m. same_path p m.path) ms h

    first : (xs : List (Mention S)) → AllByRecursion (λ m. P m × (same_path p m.path ≡ true)) xs → first_of_list xs ≡ Some k → P k
        × (same_path p k.path ≡ true)
    first [] g d = absurd cc
    first (x ∷ xs) g d = (let same : x ≡ k = cc in subst (λ m. P m × (same_path p m.path ≡ true)) same g.0)

    by_header : (o : Option (Mention S)) → find (λ m. is_header_role m.role) (mentions_at ms p) ≡ o
        → (f : Option (Mention S)) → first_of_list (mentions_at ms p) ≡ f → option_or o f ≡ Some k → P k × (same_path p k.path ≡ true)
    by_header (Some x) g f d e =
        find-all (λ m. P m × (same_path p m.path ≡ true)) (λ m. is_header_role m.role) (mentions_at ms p) k each (g ∙ e)
    by_header None g f d e = first (mentions_at ms p) each (d ∙ e)

-- so its key is that of the path
pub kept-key : {S : Type 0} (ms : List (Mention S)) (m : Mention S) → AreKeyed ms → IsKeyed m → (kept_segment ms m).key ≡ m.segment.key
kept-key {S = S} ms m h g = by_kept (kept_mention ms m.path) refl
  where
    by_kept : (o : Option (Mention S)) → kept_mention ms m.path ≡ o → (unwrap_or (option_map (λ k. k.segment) o) m.segment).key
        ≡ m.segment.key
    by_kept None e = refl
    by_kept (Some k) e =
        let is = kept-holds IsKeyed ms m.path k h e in
        key-end is.0.0 g.0 k.segment.key m.segment.key (sym is.0.1 ∙ sym (same_path-is m.path k.path is.1) ∙ g.1)

kept-keys : {S : Type 0} (ms own : List (Mention S)) → AreKeyed ms → AreKeyed own → keys_of_segments (map (kept_segment ms) own)
    ≡ keys_of_segments (own_path own)
kept-keys ms [] h g = refl
kept-keys {S = S} ms (m ∷ own) h g =
    ap (λ k. k ∷ keys_of_segments (map (kept_segment ms) own)) (kept-key ms m h g.0)
    ∙ ap (λ ks. m.segment.key ∷ ks) (kept-keys ms own h g.1)

end-keys : (ss : List Segment) → keys_of_segments (unspaced_end ss) ≡ keys_of_segments ss
end-keys [] = refl
end-keys (s ∷ []) = refl
end-keys (s ∷ r ∷ rest) = ap (λ ks. s.key ∷ ks) (end-keys (r ∷ rest))

pub ends-keys : (ss : List Segment) → keys_of_segments (unspaced_ends ss) ≡ keys_of_segments ss
ends-keys [] = refl
ends-keys (s ∷ rest) = end-keys (record s { before = [] } ∷ rest)

-- Paths spelled as their kept keys have the same keys.
pub kept-path-keys : {S : Type 0} (ms own : List (Mention S)) → AreKeyed ms → AreKeyed own → keys_of_segments (kept_path ms own)
    ≡ keys_of_segments (own_path own)
kept-path-keys ms own h g = ends-keys (map (kept_segment ms) own) ∙ kept-keys ms own h g
