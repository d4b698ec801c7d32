-- What calls leave, one after another.
use Rattle.std.proofs.Common.{◌≡◌, refl, sym, ◌∙◌, ap, Bool, true, false, List, [], ◌∷◌, ◌++◌, append_assoc}
use Rattle.std.specs.Prelude.{◌||◌, not, if◌then◌else◌, filter}
use Rattle.std.proofs.lemmas.List.Elements.{filter-append}
use Rattle.toml_edit_model.specs.Mode.{Mode}
use Rattle.toml_edit_model.specs.Text.{one}
use Rattle.toml_edit_model.specs.Paths.{Path, to_key}
use Rattle.toml_edit_model.specs.Tree.{Tree, SlotsAreWellMade}
use Rattle.toml_edit_model.specs.Print.{Printed, printed, printed_line, print_in}
use Rattle.toml_edit_model.specs.Fits.{is_below}
use Rattle.toml_edit_model.specs.Slots.{keyed, changed}
use Rattle.toml_edit_model.specs.Rearranging.{inserted_slot, moved_slot, renamed_slot}
use Rattle.toml_edit_laws.specs.Locality.{edited, is_at_or_below, value_line, StaysSteady}
use Rattle.toml_edit_laws.specs.EditLists.{after, named_path, print_of_statements}
use Rattle.toml_edit_laws.proofs.common.Tests.{if-true, if-false}
use Rattle.toml_edit_laws.proofs.common.PathLaws.{same_path-refl}
use Rattle.toml_edit_laws.proofs.locality.EditLists.{edits_stay_local}
use Rattle.toml_edit_laws.proofs.locality.Made.{added_stays_made}
use Rattle.toml_edit_edit_laws.specs.Staying.{away_from, StaysButAt, NothingChanges, OneAfterAnother, EditStays, AfterLinesStays}
use Rattle.toml_edit_edit_laws.specs.Staying.{RenamingStays, InsertionStays, MoveStays, CommentStays}
use Rattle.toml_edit_edit_laws.specs.DottedAdds.{lines_in}
use Rattle.toml_edit_edit_laws.specs.Placing.{front_of, back_of, statement_in}
use Rattle.toml_edit_edit_laws.proofs.comments.Values.{line_recommented, recommented_stays_made}
use Rattle.toml_edit_edit_laws.proofs.path_calls.AfterLines.{added_after_lines}
use Rattle.toml_edit_edit_laws.proofs.placing.Inserting.{inserted_at, inserted_stays_made}
use Rattle.toml_edit_edit_laws.proofs.placing.Moving.{moved_others, moved_stays_made}
use Rattle.toml_edit_edit_laws.proofs.renaming.Others.{renamed_others, renamed_stays_made}

-- ---- statements that are left out

abbrev apart : Path → List Printed → List Printed
apart p = filter (λ s. not (is_at_or_below p s.path))

drop-one : (p : Path) (x : Printed) → x.path ≡ p → (before rest : List Printed) → apart p (before ++ (x ∷ rest)) ≡ apart p (before ++ rest)
drop-one p x e [] rest =
    if-false (not (is_at_or_below p x.path)) (x ∷ apart p rest) (apart p rest)
    (ap (λ q. not (is_at_or_below p q)) e ∙ ap (λ b. not (b || is_below p p)) (same_path-refl p))
drop-one p x e (y ∷ before) rest = ap (λ ys. if not (is_at_or_below p y.path) then y ∷ ys else ys) (drop-one p x e before rest)

module _ (A B : Printed → Bool) where
  swap : (xs : List Printed) → filter A (filter B xs) ≡ filter B (filter A xs)
  swap [] = refl
  swap (x ∷ xs) = by_tests (A x) (B x) refl refl (swap xs)
    where
      by_tests : (a b : Bool) → A x ≡ a → B x ≡ b → filter A (filter B xs) ≡ filter B (filter A xs)
          → filter A (if b then x ∷ filter B xs else filter B xs) ≡ filter B (if a then x ∷ filter A xs else filter A xs)
      by_tests true true e f ih =
          if-true (A x) (x ∷ filter A (filter B xs)) (filter A (filter B xs)) e ∙ ap (λ ys. x ∷ ys) ih
          ∙ sym (if-true (B x) (x ∷ filter B (filter A xs)) (filter B (filter A xs)) f)
      by_tests true false e f ih = ih ∙ sym (if-false (B x) (x ∷ filter B (filter A xs)) (filter B (filter A xs)) f)
      by_tests false true e f ih = if-false (A x) (x ∷ filter A (filter B xs)) (filter A (filter B xs)) e ∙ ih
      by_tests false false e f ih = ih

  again : (xs : List Printed) → filter A (filter A xs) ≡ filter A xs
  again [] = refl
  again (x ∷ xs) = by_test (A x) refl (again xs)
    where
      by_test : (a : Bool) → A x ≡ a → filter A (filter A xs) ≡ filter A xs
          → filter A (if a then x ∷ filter A xs else filter A xs) ≡ (if a then x ∷ filter A xs else filter A xs)
      by_test true e ih = if-true (A x) (x ∷ filter A (filter A xs)) (filter A (filter A xs)) e ∙ ap (λ ys. x ∷ ys) ih
      by_test false e ih = ih

away-append : (ps qs : List Path) (xs : List Printed) → away_from (ps ++ qs) xs ≡ away_from qs (away_from ps xs)
away-append [] qs xs = refl
away-append (p ∷ ps) qs xs = away-append ps qs (apart p xs)

away-apart : (p : Path) (ps : List Path) (xs : List Printed) → away_from ps (apart p xs) ≡ apart p (away_from ps xs)
away-apart p [] xs = refl
away-apart p (q ∷ ps) xs =
    ap (away_from ps) (swap (λ s. not (is_at_or_below q s.path)) (λ s. not (is_at_or_below p s.path)) xs) ∙ away-apart p ps (apart q xs)

away-swap : (ps qs : List Path) (xs : List Printed) → away_from ps (away_from qs xs) ≡ away_from qs (away_from ps xs)
away-swap [] qs xs = refl
away-swap (p ∷ ps) qs xs = ap (away_from ps) (sym (away-apart p qs xs)) ∙ away-swap ps qs (apart p xs)

or-false : (b : Bool) → (b || false) ≡ b
or-false true = refl
or-false false = refl

only-one : (p : Path) (xs : List Printed) → filter (λ s. not (is_at_or_below p s.path || false)) xs ≡ apart p xs
only-one p [] = refl
only-one p (x ∷ xs) =
    ap (λ b. if not b then x ∷ filter (λ s. not (is_at_or_below p s.path || false)) xs
    else filter (λ s. not (is_at_or_below p s.path || false)) xs) (or-false (is_at_or_below p x.path))
    ∙ ap (λ ys. if not (is_at_or_below p x.path) then x ∷ ys else ys) (only-one p xs)

module _ (mode : Mode) where
  around : (is_open : Bool) (t u : Tree) → u.root ≡ t.root → u.trailing ≡ t.trailing → print_in mode is_open u
      ≡ print_of_statements mode is_open t (printed mode u)
  around is_open t u root trailing =
      ap (λ r. print_of_statements mode is_open (record u { root = r }) (printed mode u)) root
      ∙ ap (λ r. print_of_statements mode is_open (record t { slots = u.slots; trailing = r }) (printed mode u)) trailing

  made-so : (ps : List Path) (t u : Tree) → away_from ps (printed mode u) ≡ away_from ps (printed mode t) → StaysSteady mode t u
      → SlotsAreWellMade u.slots → StaysButAt mode ps t u
  made-so ps t u others steady made =
      record { others = others; text = λ is_open. around is_open t u steady.0 steady.1; steady = steady; made = made }

  pub nothing_changes : NothingChanges mode
  nothing_changes t made steady = made-so [] t t refl (refl, refl, steady) made

  pub one_after_another : OneAfterAnother mode
  one_after_another ps qs t u w a b =
      made-so (ps ++ qs) t w
      (away-append ps qs (printed mode w) ∙ sym (away-swap ps qs (printed mode w)) ∙ ap (away_from ps) b.others
      ∙ away-swap ps qs (printed mode u) ∙ ap (away_from qs) a.others ∙ sym (away-append ps qs (printed mode t)))
      (b.steady.0 ∙ a.steady.0, b.steady.1 ∙ a.steady.1, b.steady.2) b.made

  -- ---- each call

  pub edit_stays : EditStays mode
  edit_stays e t made steady a =
      let law = (edits_stay_local mode (e ∷ []) t made steady (a, tt)).1 in
      let p : Path = named_path mode e t a in
      made-so (p ∷ []) t (after e t)
      (sym (only-one p (printed mode (after e t))) ∙ law.others ∙ only-one p (printed mode t)) law.steady law.made

  pub after_lines_stays : AfterLinesStays mode
  after_lines_stays t way v k n made steady leads is_new plain well some =
      let law = added_after_lines mode t way v k n made steady leads is_new plain some in
      let c = law.0 in
      let p : Path = to_key v.path k.name in
      let u : Tree = edited way (λ ss. ss ++ one (keyed k n)) t in
      let own = lines_in mode c.block c.keys v in
      let x = printed_line mode c.block (value_line mode (c.keys ++ (k ∷ [])) n) in
      made-so (p ∷ []) t u
      (ap (apart p) c.second ∙ filter-append (λ s. not (is_at_or_below p s.path)) c.before (own ++ (x ∷ c.after))
      ∙ ap (λ z. apart p c.before ++ z) (drop-one p x c.path own c.after)
      ∙ sym (filter-append (λ s. not (is_at_or_below p s.path)) c.before (own ++ c.after)) ∙ ap (apart p) (sym c.first))
      law.1 (added_stays_made t way v k n made leads is_new well)

  pub renaming_stays : RenamingStays mode
  renaming_stays t way v k u s made steady leads there free =
      let law = renamed_others mode t way v k u s made steady leads there free in
      let p : Path = to_key v.path s.key.name in
      let q : Path = to_key v.path u in
      let r : Tree = edited way (renamed_slot k u) t in
      let A : Printed → Bool = λ x. not (is_at_or_below p x.path) in
      let B : Printed → Bool = λ x. not (is_at_or_below q x.path) in
      made-so (p ∷ q ∷ []) t r
      (swap B A (printed mode r) ∙ ap (apart p) (sym law.0) ∙ again A B (printed mode t) ∙ law.0 ∙ sym (again B A (printed mode r))
      ∙ ap (apart q) (sym law.0))
      law.1 (renamed_stays_made t way v k u s made leads there free)

  pub insertion_stays : InsertionStays mode
  insertion_stays t way v i k n made steady leads is_new plain has well =
      let law = inserted_at mode t way v i k n made steady leads is_new plain has in
      let c = law.0 in
      let p : Path = to_key v.path k.name in
      let u : Tree = edited way (inserted_slot i (keyed k n)) t in
      let x = statement_in mode v k n in
      let f = front_of mode i v in
      let b = back_of mode i v in
      made-so (p ∷ []) t u
      (ap (apart p) c.second ∙ filter-append (λ s. not (is_at_or_below p s.path)) c.before (f ++ (x ∷ (b ++ c.after)))
      ∙ ap (λ z. apart p c.before ++ z) (drop-one p x refl f (b ++ c.after))
      ∙ sym (filter-append (λ s. not (is_at_or_below p s.path)) c.before (f ++ (b ++ c.after)))
      ∙ ap (λ z. apart p (c.before ++ z)) (sym (append_assoc f b c.after)) ∙ ap (apart p) (sym c.first))
      law.1 (inserted_stays_made t way v i k n made leads is_new well)

  pub move_stays : MoveStays mode
  move_stays t way v k i s made steady leads there =
      let law = moved_others mode t way v k i s made steady leads there in
      made-so (to_key v.path s.key.name ∷ []) t (edited way (moved_slot k i) t) law.0 law.2 (moved_stays_made t way v k i s made leads there)

  pub comment_stays : CommentStays mode
  comment_stays t way v k h s d made steady leads there value name spelling item =
      let law = line_recommented mode t way v k h s d made steady leads there value name item in
      let c = law.0 in
      let p : Path = to_key v.path s.key.name in
      let x = printed_line mode c.block (value_line mode (c.keys ++ (s.key ∷ [])) s.item) in
      let y = printed_line mode c.block (value_line mode (c.keys ++ ((h s).key ∷ [])) (h s).item) in
      made-so (p ∷ []) t (edited way (changed k h) t)
      (ap (apart p) c.second ∙ drop-one p y c.other_path c.before c.after
      ∙ sym (ap (apart p) c.first ∙ drop-one p x c.path c.before c.after))
      law.1 (recommented_stays_made t way v k h s d made leads there name spelling item)
