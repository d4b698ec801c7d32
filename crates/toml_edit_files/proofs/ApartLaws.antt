-- Words begin with one edit at most.
use Rattle.std.proofs.Common.{◌≡◌, ◌≢◌, ◌≤◌, ◌<◌, ◌+◌, ◌++◌, append_assoc, append-nil, refl, sym, ap, subst, ◌∙◌, Bool, true, false, ℕ, zero, suc, List, [], ◌∷◌, get_or, length, length-append, inl, inr, arith, Option, Some, None, string_bytes}
use Rattle.std.specs.Prelude.{◌⊎◌, MatchBool, codes}
use Rattle.std.specs.Str.{trim_start}
use Rattle.toml_edit_model.specs.Text.{Text}
use Rattle.toml_edit_model.specs.Version.{Version}
use Rattle.toml_edit_model.specs.Tree.{Key, Node}
use Rattle.toml_edit_tree.specs.View.{value_view}
use Rattle.toml_edit_words.specs.Spelled.{SpellsValue}
use Rattle.toml_edit_edits.specs.Said.{IsWrong, SaysEdit, SpellsKeys, SpellsName, StopsEdit, StopsOperands, Takes, TakesPath, TakesValue, name_of, operands, path_name, text_name, verb_of}
use Rattle.toml_edit_edits.specs.declared.edit.Edit.{Edit}
use Rattle.toml_edit_edits.specs.declared.edit.Edit.TheVariants as edits
use Rattle.toml_edit_edits.specs.declared.fault.WordFault.{WordFault}
use Rattle.toml_edit_edits.specs.declared.fault.WordFault.TheVariants as faults
use Rattle.toml_edit_edits.specs.declared.edit.PathVerb.{PathVerb}
use Rattle.toml_edit_edits.specs.declared.edit.PathVerb.TheVariants.{Section, Remove, Sort}
use Rattle.toml_edit_edits.specs.declared.edit.TextVerb.{TextVerb}
use Rattle.toml_edit_edits.specs.declared.edit.TextVerb.TheVariants.{String as OfString, Comment}
use Rattle.toml_edit_edits.specs.declared.edit.ValueVerb.{ValueVerb}
use Rattle.toml_edit_edits.specs.declared.edit.ValueVerb.TheVariants.{Set, Header, Append, Insert, Take, Table}
use Rattle.toml_edit_edits.specs.declared.edit.Verb.{Verb}
use Rattle.toml_edit_edits.specs.declared.edit.Verb.TheVariants.{Path, Value, Text as OfText, Rename, Move}
use Rattle.toml_edit_files.proofs.OutcomeLaws.{is_false}
use Rattle.toml_edit_files.proofs.SplitLaws.{by-mistake}
use Rattle.toml_edit_edits.specs.LineWords.{AreWords, first_word, operands_in, rest_of}
use Rattle.toml_edit_files.specs.Lines.{AddsEdit, AddsLine, BeginsNoEdit, SaysLines, is_memory, is_passed}
use Rattle.toml_edit_files.specs.Requests.{SaysApart}
use Rattle.toml_edit_files.specs.Stops.{IsFor, IsMistaken}
use Rattle.toml_edit_files.specs.declared.stop.Reason.{Reason}
use Rattle.toml_edit_files.specs.declared.stop.Reason.TheVariants.{Mistaken}

-- ---- names

verb-of : (v : Verb) → verb_of (name_of v) ≡ Some v
verb-of (Value Set) = refl
verb-of (Value Header) = refl
verb-of (Value Table) = refl
verb-of (Value Append) = refl
verb-of (Value Insert) = refl
verb-of (Value Take) = refl
verb-of (OfText OfString) = refl
verb-of (OfText Comment) = refl
verb-of (Path Section) = refl
verb-of (Path Remove) = refl
verb-of (Path Sort) = refl
verb-of Rename = refl
verb-of Move = refl

same-verb : (v w : Verb) → name_of v ≡ name_of w → v ≡ w
same-verb v w is = let some : Some v ≡ Some w = sym (verb-of v) ∙ ap verb_of is ∙ verb-of w in cc

-- ---- the words of an edit

-- Words that say an edit are its name and its operands, none of which is wrong.
record IsRight (version : Version) (ws : List Text) : Type 0 where
  verb : Verb
  args : List Text
  is : ws ≡ name_of verb ∷ args
  count : length args ≡ operands verb
  right : (fault : WordFault) → is_memory fault ≡ false → IsWrong version fault verb args → ⊥

no : {A : Type 0} → true ≡ false → A
no is = absurd (let e : true ≡ false = is in cc)

module _ (version : Version) (path : Text) (keys : List Key) (spelled : SpellsKeys path keys) where
  path-right : (v : PathVerb) (fault : WordFault) → is_memory fault ≡ false → IsWrong version fault (Path v) (path ∷ []) → ⊥
  path-right v faults.Memory is wrong = no is
  path-right v (faults.Path e) is wrong = wrong keys spelled
  path-right v (faults.To e) is wrong = wrong
  path-right v (faults.Key e) is wrong = wrong
  path-right v (faults.Value e) is wrong = wrong
  path-right v faults.Name is wrong = wrong
  path-right v (faults.Operands w) is wrong = wrong

  value-right : (v : ValueVerb) (value : Text) (n : Node) → SpellsValue version value n → (fault : WordFault) → is_memory fault ≡ false
      → IsWrong version fault (Value v) (path ∷ value ∷ []) → ⊥
  value-right v value n so faults.Memory is wrong = no is
  value-right v value n so (faults.Path e) is wrong = wrong keys spelled
  value-right v value n so (faults.To e) is wrong = wrong
  value-right v value n so (faults.Key e) is wrong = wrong
  value-right v value n so (faults.Value e) is wrong = wrong.1 n so
  value-right v value n so faults.Name is wrong = wrong
  value-right v value n so (faults.Operands w) is wrong = wrong

  text-right : (v : TextVerb) (text : Text) (fault : WordFault) → is_memory fault ≡ false → IsWrong version fault (OfText v) (path ∷ text ∷ []) → ⊥
  text-right v text faults.Memory is wrong = no is
  text-right v text (faults.Path e) is wrong = wrong keys spelled
  text-right v text (faults.To e) is wrong = wrong
  text-right v text (faults.Key e) is wrong = wrong
  text-right v text (faults.Value e) is wrong = wrong
  text-right v text faults.Name is wrong = wrong
  text-right v text (faults.Operands w) is wrong = wrong

  rename-right : (key name : Text) → SpellsName key name → (fault : WordFault) → is_memory fault ≡ false
      → IsWrong version fault Rename (path ∷ key ∷ []) → ⊥
  rename-right key name so faults.Memory is wrong = no is
  rename-right key name so (faults.Path e) is wrong = wrong keys spelled
  rename-right key name so (faults.To e) is wrong = wrong
  rename-right key name so (faults.Key e) is wrong = wrong.1 name so
  rename-right key name so (faults.Value e) is wrong = wrong
  rename-right key name so faults.Name is wrong = wrong
  rename-right key name so (faults.Operands w) is wrong = wrong

  move-right : (to : Text) (ends : List Key) → SpellsKeys to ends → (fault : WordFault) → is_memory fault ≡ false
      → IsWrong version fault Move (path ∷ to ∷ []) → ⊥
  move-right to ends so faults.Memory is wrong = no is
  move-right to ends so (faults.Path e) is wrong = wrong keys spelled
  move-right to ends so (faults.To e) is wrong = wrong.1 ends so
  move-right to ends so (faults.Key e) is wrong = wrong
  move-right to ends so (faults.Value e) is wrong = wrong
  move-right to ends so faults.Name is wrong = wrong
  move-right to ends so (faults.Operands w) is wrong = wrong

module _ (version : Version) (ws : List Text) where
  by-path : (v : PathVerb) (keys : List Key) → TakesPath (path_name v) ws keys → IsRight version ws
  by-path v keys (path, is, spelled) =
      record { verb = Path v; args = path ∷ []; is = is; count = refl; right = path-right version path keys spelled v }

  by-value : (v : ValueVerb) (keys : List Key) (n : Node) → TakesValue version v ws keys n → IsRight version ws
  by-value v keys n (path, value, is, spelled, so) =
      record { verb = Value v; args = path ∷ value ∷ []; is = is; count = refl; right = value-right version path keys spelled v value n so }

  by-text : (v : TextVerb) (Is : Text → Type 0) (keys : List Key) → Takes Is (text_name v) ws keys → IsRight version ws
  by-text v Is keys (path, text, is, spelled, so) =
      record { verb = OfText v; args = path ∷ text ∷ []; is = is; count = refl; right = text-right version path keys spelled v text }

  right-of : (e : Edit) → SaysEdit version ws e → IsRight version ws
  right-of (edits.Set path v) said =
      elim said [ inl value ↦ by-value Set path.items (value_view v) value | inr text ↦ by-text OfString _ path.items text ]
  right-of (edits.Header path v) said = by-value Header path.items (value_view v) said
  right-of (edits.Table path v) said = by-value Table path.items (value_view v) said
  right-of (edits.Section path) said = by-path Section path.items said
  right-of (edits.Remove path) said = by-path Remove path.items said
  right-of (edits.Append path v) said = by-value Append path.items (value_view v) said
  right-of (edits.Insert path v) said = by-value Insert path.items (value_view v) said
  right-of (edits.Take path v) said = by-value Take path.items (value_view v) said
  right-of (edits.Rename path name) (p, key, is, spelled, so) =
      record { verb = Rename; args = p ∷ key ∷ []; is = is; count = refl; right = rename-right version p path.items spelled key (string_bytes name) so }
  right-of (edits.Move path to) (p, end, is, spelled, so) =
      record { verb = Move; args = p ∷ end ∷ []; is = is; count = refl; right = move-right version p path.items spelled end to.items so }
  right-of (edits.Sort path) said = by-path Sort path.items said
  right-of (edits.Comment path text) said = by-text Comment _ path.items said

-- ---- one front

cancel : (us vs x y : List Text) → length us ≡ length vs → us ++ x ≡ vs ++ y → (us ≡ vs) × (x ≡ y)
cancel [] [] x y count is = (refl, is)
cancel [] (v ∷ vs) x y count is = absurd (omega (arith, count))
cancel (u ∷ us) [] x y count is = absurd (omega (arith, count))
cancel (u ∷ us) (v ∷ vs) x y count is =
    let head : u ≡ v = cc in let tail : us ++ x ≡ vs ++ y = cc in let more = cancel us vs x y (omega (arith, count)) tail in
    (ap (λ (w : Text). w ∷ us) head ∙ ap (λ (l : List Text). v ∷ l) more.0, more.1)

-- two edits that words begin with have the same words
pub same-front : (version : Version) (a b x y : List Text) (e f : Edit) → SaysEdit version a e → SaysEdit version b f → a ++ x ≡ b ++ y
    → (a ≡ b) × (x ≡ y)
same-front version a b x y e f said other is =
    let r = right-of version a e said in let s = right-of version b f other in
    let all : name_of r.verb ∷ (r.args ++ x) ≡ name_of s.verb ∷ (s.args ++ y) = sym (ap (λ l. l ++ x) r.is) ∙ is ∙ ap (λ l. l ++ y) s.is in
    let head : name_of r.verb ≡ name_of s.verb = cc in let tail : r.args ++ x ≡ s.args ++ y = cc in
    let count : length r.args ≡ length s.args = r.count ∙ ap operands (same-verb r.verb s.verb head) ∙ sym s.count in
    let more = cancel r.args s.args x y count tail in
    (r.is ∙ ap (λ w. w ∷ r.args) head ∙ ap (λ l. name_of s.verb ∷ l) more.0 ∙ sym s.is, more.1)

-- words that begin with no edit have none in front
module _ (version : Version) (ws first rest : List Text) (e : Edit) (is : ws ≡ first ++ rest) (said : SaysEdit version first e) where
  abbrev r : IsRight version first
  r = right-of version first e said

  named : ws ≡ name_of r.verb ∷ (r.args ++ rest)
  named = is ∙ ap (λ l. l ++ rest) r.is

  by-operands : (fault : WordFault) → is_memory fault ≡ false → (v : Verb) (more : List Text) → ws ≡ name_of v ∷ more → StopsOperands version v more fault
      → ⊥
  by-operands fault other v more other_is stops =
      let all : name_of v ∷ more ≡ name_of r.verb ∷ (r.args ++ rest) = sym other_is ∙ named in
      let head : name_of v ≡ name_of r.verb = cc in let tail : more ≡ r.args ++ rest = cc in
      let v_is : v ≡ r.verb = same-verb v r.verb head in
      let here : StopsOperands version r.verb (r.args ++ rest) fault = subst (λ l. StopsOperands version r.verb l fault) tail
      (subst (λ w. StopsOperands version w more fault) v_is stops) in
      stopped fault other here
    where
      wrong-at : (f : WordFault) → is_memory f ≡ false → (front back : List Text) → r.args ++ rest ≡ front ++ back → length front ≡ operands r.verb
          → IsWrong version f r.verb front → ⊥
      wrong-at f m front back same count wrong =
          let at = cancel r.args front rest back (r.count ∙ sym count) same in
          r.right f m (subst (λ l. IsWrong version f r.verb l) (sym at.0) wrong)

      stopped : (f : WordFault) → is_memory f ≡ false → StopsOperands version r.verb (r.args ++ rest) f → ⊥
      stopped (faults.Operands w) m s =
          let few : length (r.args ++ rest) < operands r.verb = s.1 in let count = r.count in let both = length-append r.args rest in
          omega (arith, few, count, both)
      stopped faults.Memory m s = no m
      stopped faults.Name m (front, back, same, count, wrong) = wrong-at faults.Name m front back same count wrong
      stopped (faults.Path x) m (front, back, same, count, wrong) = wrong-at (faults.Path x) m front back same count wrong
      stopped (faults.To x) m (front, back, same, count, wrong) = wrong-at (faults.To x) m front back same count wrong
      stopped (faults.Key x) m (front, back, same, count, wrong) = wrong-at (faults.Key x) m front back same count wrong
      stopped (faults.Value x) m (front, back, same, count, wrong) = wrong-at (faults.Value x) m front back same count wrong

  pub begins-none : (fault : WordFault) → is_memory fault ≡ false → StopsEdit version ws fault → ⊥
  begins-none faults.Memory m s = no m
  begins-none faults.Name m s = s r.verb (r.args ++ rest) named
  begins-none (faults.Operands w) m (v, more, at, s) = by-operands (faults.Operands w) m v more at s
  begins-none (faults.Path x) m (v, more, at, s) = by-operands (faults.Path x) m v more at s
  begins-none (faults.To x) m (v, more, at, s) = by-operands (faults.To x) m v more at s
  begins-none (faults.Key x) m (v, more, at, s) = by-operands (faults.Key x) m v more at s
  begins-none (faults.Value x) m (v, more, at, s) = by-operands (faults.Value x) m v more at s

-- a fault that is not memory's
pub other-fault : (A B : Type 0) (fault : WordFault) → fault ≢ faults.Memory → B → MatchBool (is_memory fault) A B
other-fault A B faults.Memory other b = absurd (other refl)
other-fault A B faults.Name other b = b
other-fault A B (faults.Operands w) other b = b
other-fault A B (faults.Path e) other b = b
other-fault A B (faults.To e) other b = b
other-fault A B (faults.Key e) other b = b
other-fault A B (faults.Value e) other b = b

-- ---- a line

same-words : (l : Text) (us vs : List Text) → AreWords l us → AreWords l vs → us ≡ vs
same-words l us vs (inl (v, n, is)) (inl (w, m, at)) =
    is ∙ ap (λ x. first_word l ∷ operands_in x (rest_of l)) (same-verb v w (sym n ∙ m)) ∙ sym at
same-words l us vs (inl (v, n, is)) (inr (none, at)) = absurd (none v n)
same-words l us vs (inr (none, is)) (inl (w, m, at)) = absurd (none w m)
same-words l us vs (inr (none, is)) (inr (no_name, at)) = is ∙ sym at

module _ (version : Version) where
  none-adds : (l : Text) (ws : List Text) → AreWords l ws → BeginsNoEdit version ws → (old new : List Edit)
      → (us : List Text) × (rest : List Text) × AreWords l us × AddsEdit version us rest old new → ⊥
  none-adds l ws are (fault, m, stops) old new (us, rest, other, (first, e, is, said, more)) =
      begins-none version ws first rest e (sym (same-words l us ws other are) ∙ is) said fault m stops

  -- a line whose words begin with no edit has none
  pub line-none : (l : Text) (ws : List Text) → is_passed l ≡ false → AreWords l ws → BeginsNoEdit version ws → (old new : List Edit)
      → AddsLine version l old new → ⊥
  line-none l ws other are none old new adds =
      none-adds l ws are none old new
      (is_false (new ≡ old) ((us : List Text) × (rest : List Text) × AreWords l us × AddsEdit version us rest old new) (is_passed l) other adds)

  -- the words begin with no edit, unless memory ran out
  pub begins-no : (ws : List Text) (fault : WordFault) (why : Option Reason) (b : Bool) → is_memory fault ≡ b → StopsEdit version ws fault
      → MatchBool b (why ≡ None) (IsFor Mistaken why) → IsMistaken (BeginsNoEdit version ws) why
  begins-no ws fault why true is stops none = subst (IsMistaken (BeginsNoEdit version ws)) (sym none) tt
  begins-no ws fault why false is stops so = by-mistake (BeginsNoEdit version ws) why (fault, is, stops) so

  -- so a script with such a line says no edits
  pub no-line : (ls : List Text) (n : ℕ) (l : Text) → n < length ls → l ≡ get_or ls n l
      → ((old new : List Edit) → AddsLine version (trim_start l) old new → ⊥) → (old new : List Edit) → SaysLines version ls old new → ⊥
  no-line [] n l within is none old new said = absurd (omega (arith, within))
  no-line (x ∷ ls) zero l within is none old new (next, one, more) =
      none old next (subst (λ t. AddsLine version (trim_start t) old next) (sym is) one)
  no-line (x ∷ ls) (suc n) l within is none old new (next, one, more) = no-line ls n l (omega (arith, within)) is none next new more

-- ---- edits with commas between them

module _ (version : Version) where
  -- an edit more
  pub said-apart : (front w : List Text) (es : List Edit) (e : Edit) → es ≢ [] → SaysApart version front es → SaysEdit version w e
      → SaysApart version (front ++ (codes "," ∷ w)) (es ++ (e ∷ []))
  said-apart front w [] e some said one = absurd (some refl)
  said-apart front w (f ∷ []) e some said one = (front, w, refl, said, one)
  said-apart front w (f ∷ (g ∷ es)) e some (first, rest, is, said, more) one = (
    first,
    rest ++ (codes "," ∷ w),
    ap (λ l. l ++ (codes "," ∷ w)) is ∙ append_assoc first (codes "," ∷ rest) (codes "," ∷ w),
    said,
    said-apart rest w (g ∷ es) e (λ none. absurd cc) more one,
  )

  -- no edit has no words
  not-empty : (e : Edit) → SaysEdit version [] e → ⊥
  not-empty e said = let is = (right-of version [] e said).is in absurd cc

  -- what may follow words that say edits, in words that say some
  abbrev Follows : List Text → Type 0
  Follows tail =
      (tail ≡ []) ⊎ ((more : List Text) × (es : List Edit) × (tail ≡ codes "," ∷ more) × (es ≢ []) × SaysApart version more es)

  after-one : (front tail : List Text) (f : Edit) (es : List Edit) → SaysEdit version front f → SaysApart version (front ++ tail) es → Follows tail
  after-one front tail f [] one none =
      let is = (right-of version front f one).is in
      let named : name_of (right-of version front f one).verb ∷ ((right-of version front f one).args ++ tail) ≡ [] = sym (ap (λ l. l ++ tail) is) ∙ none in
      absurd cc
  after-one front tail f (e ∷ []) one said =
      inl (sym (same-front version (front ++ tail) front [] tail e f said one (append-nil (front ++ tail))).1)
  after-one front tail f (e ∷ (g ∷ es)) one (first, rest, is, said, more) =
      let at = same-front version first front (codes "," ∷ rest) tail e f said one (sym is) in
      inr (rest, g ∷ es, sym at.1, (λ none. absurd cc), more)

  follows-on : (tail rest : List Text) → ((hs : List Edit) → SaysApart version (rest ++ tail) hs → Follows tail)
      → Follows (codes "," ∷ (rest ++ tail)) → Follows tail
  follows-on tail rest go (inl none) = absurd cc
  follows-on tail rest go (inr (left, hs, at, others, saying)) =
      let same : left ≡ rest ++ tail = cc in go hs (subst (λ l. SaysApart version l hs) same saying)

  follows : (front tail : List Text) (fs es : List Edit) → fs ≢ [] → SaysApart version front fs → SaysApart version (front ++ tail) es → Follows tail
  follows front tail [] es some said all = absurd (some refl)
  follows front tail (f ∷ []) es some said all = after-one front tail f es said all
  follows front tail (f ∷ (g ∷ fs)) es some (first, rest, is, said, more) all =
      let whole : front ++ tail ≡ first ++ (codes "," ∷ (rest ++ tail)) = ap (λ l. l ++ tail) is ∙ append_assoc first (codes "," ∷ rest) tail in
      follows-on tail rest (λ hs saying. follows rest tail (g ∷ fs) hs (λ none. absurd cc) more saying)
      (after-one first (codes "," ∷ (rest ++ tail)) f es said (subst (λ l. SaysApart version l es) whole all))

  -- words that begin with no edit say none
  pub says-none : (ws : List Text) → BeginsNoEdit version ws → (es : List Edit) → es ≢ [] → SaysApart version ws es → ⊥
  says-none ws none [] some said = some refl
  says-none ws (fault, m, stops) (e ∷ []) some said = begins-none version ws ws [] e (sym (append-nil ws)) said fault m stops
  says-none ws (fault, m, stops) (e ∷ (f ∷ es)) some (first, rest, is, said, more) =
      begins-none version ws first (codes "," ∷ rest) e is said fault m stops

  pub says-some : (w : Text) (ws : List Text) → BeginsNoEdit version (w ∷ ws) → (es : List Edit) → SaysApart version (w ∷ ws) es → ⊥
  says-some w ws none [] said = absurd cc
  says-some w ws none (e ∷ es) said = says-none (w ∷ ws) none (e ∷ es) (λ nil. absurd cc) said

  pub empty-says-none : (es : List Edit) → es ≢ [] → SaysApart version [] es → ⊥
  empty-says-none [] some said = some refl
  empty-says-none (e ∷ []) some said = not-empty e said
  empty-says-none (e ∷ (f ∷ es)) some ([], rest, is, said, more) = absurd cc
  empty-says-none (e ∷ (f ∷ es)) some (w ∷ first, rest, is, said, more) = absurd cc

  -- behind edits there is another word than a comma, or nothing behind it, or no edit
  module _ (all front : List Text) (fs : List Edit) (some : fs ≢ []) (said : SaysApart version front fs) (c : Text) (more : List Text)
      (is : all ≡ front ++ (c ∷ more)) where
    tail-of : (es : List Edit) → SaysApart version all es → Follows (c ∷ more)
    tail-of es saying = follows front (c ∷ more) fs es some said (subst (λ l. SaysApart version l es) is saying)

    pub no-comma : c ≢ codes "," → (es : List Edit) → SaysApart version all es → ⊥
    no-comma other es saying = elim (tail-of es saying) [ inl none ↦ absurd cc | inr at ↦ let e = at.2 in other cc ]

    pub no-more : more ≡ [] → (es : List Edit) → SaysApart version all es → ⊥
    no-more none es saying =
        elim (tail-of es saying) [
          | inl nothing ↦ absurd cc
          | inr at ↦
              let e = at.2 in let left : at.0 ≡ [] = let same : more ≡ at.0 = cc in sym same ∙ none in
              empty-says-none at.1 at.3 (subst (λ l. SaysApart version l at.1) left at.4)
        ]

    pub no-next : BeginsNoEdit version more → (es : List Edit) → SaysApart version all es → ⊥
    no-next none es saying =
        elim (tail-of es saying) [
          | inl nothing ↦ absurd cc
          | inr at ↦
              let e = at.2 in let left : at.0 ≡ more = cc in
              says-none more none at.1 at.3 (subst (λ l. SaysApart version l at.1) left at.4)
        ]

  -- ---- one edit after another

  pub no-edit : (ws : List Text) → ws ≢ [] → BeginsNoEdit version ws → (es : List Edit) → SaysApart version ws es → ⊥
  no-edit [] some none = absurd (some refl)
  no-edit (w ∷ ws) some none = says-some w ws none

  more-some : (es : List Edit) (e : Edit) → es ++ (e ∷ []) ≢ []
  more-some [] e none = absurd cc
  more-some (f ∷ es) e none = absurd cc

  -- the words before the rest say the edits
  abbrev pub SaidBefore : List Text → List Text → List Edit → Type 0
  SaidBefore all rest es = (front : List Text) × (all ≡ front ++ rest) × SaysApart version front es × (es ≢ [])

  pub first-apart : (ws rest : List Text) (old new : List Edit) → old ≡ [] → AddsEdit version ws rest old new → SaidBefore ws rest new
  first-apart ws rest old new none (first, e, is, said, more) =
      let one : new ≡ e ∷ [] = more ∙ ap (λ l. l ++ (e ∷ [])) none in
      (first, is, subst (SaysApart version first) (sym one) said, subst (λ l. l ≢ []) (sym one) (more-some [] e))

  pub next-apart : (all more rest : List Text) (old new : List Edit) → SaidBefore all (codes "," ∷ more) old → AddsEdit version more rest old new
      → SaidBefore all rest new
  next-apart all more rest old new (front, at, before, some) (first, e, is, said, grown) = (
    front ++ (codes "," ∷ first),
    at ∙ ap (λ l. front ++ (codes "," ∷ l)) is ∙ sym (append_assoc front (codes "," ∷ first) rest),
    subst (SaysApart version (front ++ (codes "," ∷ first))) (sym grown) (said-apart front first old e some before said),
    subst (λ l. l ≢ []) (sym grown) (more-some old e),
  )

  pub all-apart : (all rest : List Text) (es : List Edit) → SaidBefore all rest es → rest ≡ [] → SaysApart version all es
  all-apart all rest es (front, at, said, some) none =
      subst (λ l. SaysApart version l es) (sym (at ∙ ap (λ l. front ++ l) none ∙ append-nil front)) said

  -- there is another word than a comma behind them, or nothing behind it, or no edit
  module _ (all : List Text) (c : Text) (more : List Text) (old : List Edit) where
    pub no-comma-next : SaidBefore all (c ∷ more) old → c ≢ codes "," → (es : List Edit) → SaysApart version all es → ⊥
    no-comma-next (front, at, said, some) = no-comma all front old some said c more at

    pub no-more-next : SaidBefore all (c ∷ more) old → more ≡ [] → (es : List Edit) → SaysApart version all es → ⊥
    no-more-next (front, at, said, some) = no-more all front old some said c more at

    pub no-edit-next : SaidBefore all (c ∷ more) old → BeginsNoEdit version more → (es : List Edit) → SaysApart version all es → ⊥
    no-edit-next (front, at, said, some) = no-next all front old some said c more at
