-- The words of edits.
use Rattle.std.proofs.Common.{◌≡◌, ◌≢◌, ◌==◌, ◌≤◌, ◌<◌, ◌+◌, ◌-◌, ◌++◌, append_assoc, append-nil, drop, refl, sym, ap, subst, ◌∙◌, Bool, false, ℕ, zero, suc, List, [], ◌∷◌, length, cond, find, get_or, map, take, true, Option, None, Some, bytes_eq, inl, inr, Bor, arith}
use Rattle.std.proofs.lemmas.Grind.{common_steps}
use Rattle.std.proofs.lemmas.Slice.Eq.{bytes_eq-Decides}
use Rattle.toml_edit_error.specs.Fault.{IfToml}
use Rattle.toml_edit_error.specs.declared.toml_error.ParseFault.{ParseFault}
use Rattle.toml_edit_error.specs.declared.toml_error.ParseFault.TheVariants as causes
use Rattle.toml_edit_error.specs.declared.toml_error.TomlError.{TomlError}
use Rattle.toml_edit_model.specs.Keys.{names}
use Rattle.toml_edit_model.specs.Text.{Text}
use Rattle.toml_edit_model.specs.Tree.{Key}
use Rattle.toml_edit_model.specs.Version.{Version}
use Rattle.toml_edit_words.specs.Spelled.{IsNoPath, SpellsPath}
use Rattle.toml_edit_edits.specs.Said.{IsNoKeys, IsNoName, IsWrong, SaysEdit, SaysEdits, SpellsKeys, StopsEdit, StopsOperands, all_verbs, name_of, operands, verb_of}
use Rattle.toml_edit_edits.specs.declared.edit.Edit.{Edit}
use Rattle.toml_edit_edits.specs.declared.fault.WordFault.{WordFault}
use Rattle.toml_edit_edits.specs.declared.fault.WordFault.TheVariants as faults
use Rattle.toml_edit_edits.specs.declared.edit.PathVerb.TheVariants.{Section, Remove, Sort}
use Rattle.toml_edit_edits.specs.declared.edit.TextVerb.TheVariants.{String as OfString, Comment}
use Rattle.toml_edit_edits.specs.declared.edit.ValueVerb.TheVariants.{Set, Header, Append, Insert, Take, Table}
use Rattle.toml_edit_edits.specs.declared.edit.Verb.{Verb}
use Rattle.toml_edit_edits.specs.declared.edit.Verb.TheVariants.{Path, Value, Text as OfText, Rename, Move}

-- ---- paths and names

-- a text that is neither empty nor a path
pub no-keys : (t : Text) (empty : Bool) → empty ≡ (length t == 0) → empty ≡ false → (fault : ParseFault)
    → IfToml fault (λ _. IsNoPath t) → IfToml fault (λ _. IsNoKeys t)
no-keys t empty is some (causes.Toml e) none =
    λ keys spelled.
    elim spelled [
      | inl root ↦ let no = is ∙ ap (λ (u : Text). length u == 0) root.0 in absurd cc
      | inr path ↦ none path.0 path.1
    ]
no-keys t empty is some causes.Memory none = tt

-- a text that is no path is no key
pub no-key : (t : Text) (fault : ParseFault) → IfToml fault (λ _. IsNoPath t) → IfToml fault (λ _. IsNoName t)
no-key t (causes.Toml e) none = λ name is. none (name ∷ []) is
no-key t causes.Memory none = tt

-- one key has one name
pub one-name : (ks : List Key) (k : Key) → length ks ≡ 1 → k ≡ get_or ks 0 k → names ks ≡ k.name ∷ []
one-name [] k one is = absurd (omega (arith, one))
one-name (x ∷ []) k one is = ap (λ (y : Key). y.name ∷ []) (sym is)
one-name (x ∷ (y ∷ ks)) k one is = absurd (omega (arith, one))

-- a path of other lengths
pub no-name : (t : Text) (ks : List Key) → ((ns : List Text) → SpellsPath t ns → names ks ≡ ns) → (length ks ≡ 1 → ⊥) → IsNoName t
no-name t [] only other name is = let e = only (name ∷ []) is in absurd cc
no-name t (x ∷ []) only other name is = other refl
no-name t (x ∷ (y ∷ ks)) only other name is = let e = only (name ∷ []) is in absurd cc

-- ---- words after a name

-- the first words are those that an edit takes, and one of them is wrong
pub wrong-front : (version : Version) (v : Verb) (front rest ws : List Text) (fault : WordFault) → ws ≡ front ++ rest → length front ≡ operands v
    → IsWrong version fault v front → StopsOperands version v ws fault
wrong-front version v front rest ws faults.Memory is count wrong = (front, rest, is, count, wrong)
wrong-front version v front rest ws (faults.Path e) is count wrong = (front, rest, is, count, wrong)
wrong-front version v front rest ws (faults.To e) is count wrong = (front, rest, is, count, wrong)
wrong-front version v front rest ws (faults.Key e) is count wrong = (front, rest, is, count, wrong)
wrong-front version v front rest ws (faults.Value e) is count wrong = (front, rest, is, count, wrong)
wrong-front version v front rest ws faults.Name is count wrong = absurd wrong
wrong-front version v front rest ws (faults.Operands w) is count wrong = absurd wrong

-- so the words of which a name is the first begin with no edit
pub stops-named : (version : Version) (v : Verb) (ws more : List Text) (fault : WordFault) → ws ≡ name_of v ∷ more
    → StopsOperands version v more fault → StopsEdit version ws fault
stops-named version v ws more faults.Memory is stops = tt
stops-named version v ws more (faults.Path e) is stops = (v, more, is, stops)
stops-named version v ws more (faults.To e) is stops = (v, more, is, stops)
stops-named version v ws more (faults.Key e) is stops = (v, more, is, stops)
stops-named version v ws more (faults.Value e) is stops = (v, more, is, stops)
stops-named version v ws more faults.Name is stops = absurd stops.4
stops-named version v ws more (faults.Operands w) is stops = (v, more, is, stops)

-- ---- the words at the front

-- what stands for a word that is not there
abbrev pub nowhere : Bor Text
nowhere = record { ref_ptr = (0, 0); now = [] }

abbrev pub word_at : List (Bor Text) → ℕ → Text
word_at words i = (get_or words i nowhere).now

pub lone : (words : List (Bor Text)) → 1 ≤ length words → length words < 2 → map (λ w. w.now) words ≡ word_at words 0 ∷ []
lone [] long less = absurd (omega (arith, long))
lone (x ∷ []) long less = refl
lone (x ∷ (y ∷ words)) long less = absurd (omega (arith, less))

pub pair : (words : List (Bor Text)) → 2 ≤ length words
    → (rest : List Text) × (map (λ w. w.now) words ≡ word_at words 0 ∷ word_at words 1 ∷ rest)
pair [] long = absurd (omega (arith, long))
pair (x ∷ []) long = absurd (omega (arith, long))
pair (x ∷ (y ∷ words)) long = (map (λ w. w.now) words, refl)

-- an edit takes no more than the first two
pub taken : (v : Verb) (path end : Text) (rest : List Text)
    → (more : List Text) × (path ∷ end ∷ rest ≡ take (operands v) (path ∷ end ∷ []) ++ more)
    × (length (take (operands v) (path ∷ end ∷ [])) ≡ operands v)
    × (take (operands v) (path ∷ end ∷ rest) ≡ take (operands v) (path ∷ end ∷ []))
taken (Path v) path end rest = (end ∷ rest, refl, refl, refl)
taken (Value v) path end rest = (rest, refl, refl, refl)
taken (OfText v) path end rest = (rest, refl, refl, refl)
taken Rename path end rest = (rest, refl, refl, refl)
taken Move path end rest = (rest, refl, refl, refl)

-- so a path that is none is wrong
pub wrong-path : (version : Version) (e : TomlError) (v : Verb) (path end : Text) → IsNoKeys path
    → IsWrong version (faults.Path e) v (take (operands v) (path ∷ end ∷ []))
wrong-path version e (Path v) path end none = none
wrong-path version e (Value v) path end none = none
wrong-path version e (OfText v) path end none = none
wrong-path version e Rename path end none = none
wrong-path version e Move path end none = none

rest-is : (n : ℕ) (words : List (Bor Text)) → n ≤ length words → take (length words - n) (drop n words) ≡ drop n words
rest-is n words within = grind (arith, common_steps)

-- the first word is the name of a verb
pub named : (v : Verb) (words : List (Bor Text)) → 1 ≤ length words → word_at words 0 ≡ name_of v
    → map (λ w. w.now) words ≡ name_of v ∷ map (λ w. w.now) (take (length words - 1) (drop 1 words))
named v [] long name = absurd (omega (arith, long))
named v (x ∷ words) long name =
    ap (λ l. x.now ∷ map (λ w. w.now) l) (sym (rest-is 1 (x ∷ words) long))
    ∙ ap (λ (s : Text). s ∷ map (λ w. w.now) (take (length (x ∷ words) - 1) (drop 1 (x ∷ words)))) name

pub take-next : (n : ℕ) (t : Text) (ws : List Text) → take (n + 1) (t ∷ ws) ≡ t ∷ take n ws
take-next n t ws = let next : n + 1 ≡ suc n = omega arith in ap (λ m. take m (t ∷ ws)) next

-- ---- the names

-- none of all edits has the name
pub none-named : (name : Text) (count : ℕ) → 13 ≤ count → ((i : ℕ) → i < count → name ≢ name_of (get_or all_verbs i Move)) → (v : Verb)
    → name ≢ name_of v
none-named name count all none (Value Set) = none 0 (omega (arith, all))
none-named name count all none (OfText OfString) = none 1 (omega (arith, all))
none-named name count all none (Value Header) = none 2 (omega (arith, all))
none-named name count all none (Value Table) = none 3 (omega (arith, all))
none-named name count all none (Path Section) = none 4 (omega (arith, all))
none-named name count all none (Path Remove) = none 5 (omega (arith, all))
none-named name count all none (Value Append) = none 6 (omega (arith, all))
none-named name count all none (Value Insert) = none 7 (omega (arith, all))
none-named name count all none (Value Take) = none 8 (omega (arith, all))
none-named name count all none Rename = none 9 (omega (arith, all))
none-named name count all none Move = none 10 (omega (arith, all))
none-named name count all none (Path Sort) = none 11 (omega (arith, all))
none-named name count all none (OfText Comment) = none 12 (omega (arith, all))

-- each edit is found by its name
pub verb-of : (v : Verb) → verb_of (name_of v) ≡ Some v
verb-of (Value Set) = refl
verb-of (OfText OfString) = refl
verb-of (Value Header) = refl
verb-of (Value Table) = refl
verb-of (Path Section) = refl
verb-of (Path Remove) = refl
verb-of (Value Append) = refl
verb-of (Value Insert) = refl
verb-of (Value Take) = refl
verb-of Rename = refl
verb-of Move = refl
verb-of (Path Sort) = refl
verb-of (OfText Comment) = refl

find-none : (p : Verb → Bool) (vs : List Verb) → ((v : Verb) → p v ≡ false) → find p vs ≡ None
find-none p [] none = refl
find-none p (v ∷ vs) none = ap (λ (b : Bool). cond b (Some v) (find p vs)) (none v) ∙ find-none p vs none

differs : (a b : Text) (same : Bool) → bytes_eq a b ≡ same → a ≢ b → bytes_eq a b ≡ false
differs a b false is other = is
differs a b true is other = absurd (other ((bytes_eq-Decides a b).0 is))

-- and no other name finds one
pub no-verb : (name : Text) → ((v : Verb) → name ≢ name_of v) → verb_of name ≡ None
no-verb name none = find-none (λ v. bytes_eq name (name_of v)) all_verbs (λ v. differs name (name_of v) (bytes_eq name (name_of v)) refl (none v))

-- ---- one after another

module _ (version : Version) where
  pub said-more : (front ws : List Text) (es : List Edit) (e : Edit) → SaysEdits version front es → SaysEdit version ws e
      → SaysEdits version (front ++ ws) (es ++ (e ∷ []))
  said-more front ws [] e none said = (ws, [], ap (λ l. l ++ ws) none ∙ sym (append-nil ws), said, refl)
  said-more front ws (d ∷ es) e (first, rest, is, one, others) said =
      (first, rest ++ ws, ap (λ l. l ++ ws) is ∙ append_assoc first rest ws, one, said-more rest ws es e others said)

split-map : (n : ℕ) (words : List (Bor Text)) → map (λ w. w.now) words ≡ take n (map (λ w. w.now) words) ++ map (λ w. w.now) (drop n words)
split-map zero words = refl
split-map (suc n) [] = refl
split-map (suc n) (w ∷ words) = ap (λ l. w.now ∷ l) (split-map n words)

pub after : (all before : List Text) (n : ℕ) (words : List (Bor Text)) → n ≤ length words → all ≡ before ++ map (λ w. w.now) words
    → all ≡ (before ++ take n (map (λ w. w.now) words)) ++ map (λ w. w.now) (take (length words - n) (drop n words))
after all before n words within is =
    is ∙ ap (λ l. before ++ l) (split-map n words)
    ∙ sym (append_assoc before (take n (map (λ w. w.now) words)) (map (λ w. w.now) (drop n words)))
    ∙ ap (λ l. (before ++ take n (map (λ w. w.now) words)) ++ map (λ w. w.now) l) (sym (rest-is n words within))
