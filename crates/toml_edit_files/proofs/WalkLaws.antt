-- Files that are found, name by name.
use Rattle.std.proofs.Common.{◌≡◌, ◌<◌, ◌≤◌, ◌+◌, ◌⊎◌, Bor, ℕ, zero, suc, Vec, Bool, true, false, ◌||◌, List, [], ◌∷◌, ◌++◌, length, map, take, get_or, refl, sym, ap, ◌∙◌, append_assoc, append-nil, subst, inl, inr, string_bytes}
use Rattle.std.specs.Prelude.{Option, MatchBool, if◌then◌else◌, nat_eq, not, filter, codes}
use Rattle.std.specs.List.{list_any, starts_with}
use Rattle.std.specs.declared.alloc.Global.{Global}
use Rattle.std.specs.declared.string.String.{String}
use Rattle.std.proofs.lemmas.List.{take_all, take_more}
use Rattle.std.proofs.lemmas.List.Elements.{filter-append}
use Rattle.std.proofs.lemmas.List.Folds.{list_any-append}
use Rattle.file_replace.specs.Events.{Text, Event, listed, no_folder, done, failed, more}
use Rattle.toml_edit_files.specs.Walks.{Finds, FindsEach, FindsFile, FindsMore, FindsNamed, LooksAt, below, inside, is_listing, is_toml, walks}
use Rattle.toml_edit_files.specs.Folders.{is_stream}
use Rattle.toml_edit_files.specs.declared.walk.TheConstants.{DEPTH}
use Rattle.toml_edit_files.specs.declared.walk.Place.{Place}
use Rattle.toml_edit_files.specs.declared.walk.Place.TheVariants.{Folder, Other, Unknown}
use Rattle.toml_edit_files.proofs.FolderLaws.{more_more, more_none}

-- ---- names in a folder

shown : Text → Bool
shown n = not (starts_with nat_eq n (codes "."))

abbrev pub below_one : Text → Text → List Text
below_one folder n = if not (starts_with nat_eq n (codes ".")) then inside folder n ∷ [] else []

map-last : {X Y : Type 0} (f : X → Y) (xs ys : List X) → map f (xs ++ ys) ≡ map f xs ++ map f ys
map-last f [] ys = refl
map-last f (x ∷ xs) ys = ap (λ zs. f x ∷ zs) (map-last f xs ys)

one-shown : (folder n : Text) (b : Bool) → map (inside folder) (if b then n ∷ [] else []) ≡ (if b then inside folder n ∷ [] else [])
one-shown folder n true = refl
one-shown folder n false = refl

below-last : (folder n : Text) (ns : List Text) → below folder (ns ++ (n ∷ [])) ≡ below folder ns ++ below_one folder n
below-last folder n ns =
    ap (map (inside folder)) (filter-append (λ m. not (starts_with nat_eq m (codes "."))) ns (n ∷ []))
    ∙ map-last (inside folder) (filter (λ m. not (starts_with nat_eq m (codes "."))) ns) (filter (λ m. not (starts_with nat_eq m (codes "."))) (n ∷ []))
    ∙ ap (λ xs. below folder ns ++ xs) (one-shown folder n (not (starts_with nat_eq n (codes "."))))

pub names-more : (ns : List (String Global)) (i : ℕ) (d : String Global) → i < length ns
    → map string_bytes (take (i + 1) ns) ≡ map string_bytes (take i ns) ++ (string_bytes (get_or ns i d) ∷ [])
names-more ns i d is = ap (map string_bytes) (take_more ns i d is) ∙ map-last string_bytes (take i ns) (get_or ns i d ∷ [])

pub below-more : (folder : Text) (ns : List (String Global)) (i : ℕ) (d : String Global) → i < length ns
    → below folder (map string_bytes (take (i + 1) ns)) ≡ below folder (map string_bytes (take i ns)) ++ below_one folder (string_bytes (get_or ns i d))
below-more folder ns i d is = ap (below folder) (names-more ns i d is) ∙ below-last folder (string_bytes (get_or ns i d)) (map string_bytes (take i ns))

module _ (folder : Text) (ns ps : List (String Global)) (i : ℕ) (d : String Global) (is : i < length ns) (n : Text) (same : n ≡ string_bytes (get_or ns i d))
    (so : map string_bytes ps ≡ below folder (map string_bytes (take i ns))) (begins : Bool) (tells : begins ≡ starts_with nat_eq n (codes ".")) where
  one-is : (b : Bool) → begins ≡ b → below_one folder (string_bytes (get_or ns i d)) ≡ (if not b then inside folder n ∷ [] else [])
  one-is b known =
      ap (below_one folder) (sym same) ∙ ap (λ c. if not c then inside folder n ∷ [] else []) (sym tells ∙ known)

  pub path-shown : begins ≡ false → (p : String Global) (qs : List (String Global)) → string_bytes p ≡ inside folder n → qs ≡ ps ++ (p ∷ [])
      → map string_bytes qs ≡ below folder (map string_bytes (take (i + 1) ns))
  path-shown not-so p qs made pushed =
      ap (map string_bytes) pushed ∙ map-last string_bytes ps (p ∷ []) ∙ ap (λ t. map string_bytes ps ++ (t ∷ [])) made
      ∙ ap (λ ts. ts ++ (inside folder n ∷ [])) so ∙ ap (λ ts. below folder (map string_bytes (take i ns)) ++ ts) (sym (one-is false not-so))
      ∙ sym (below-more folder ns i d is)

  pub path-hidden : begins ≡ true → map string_bytes ps ≡ below folder (map string_bytes (take (i + 1) ns))
  path-hidden is-so =
      so ∙ sym (append-nil (below folder (map string_bytes (take i ns))))
      ∙ ap (λ ts. below folder (map string_bytes (take i ns)) ++ ts) (sym (one-is true is-so)) ∙ sym (below-more folder ns i d is)

-- ---- files of names

module _ (F : Text → List Event → List Text → Type 0) where
  each-last : (ns : List Text) (n : Text) (es fs : List Event) (found others : List Text) → FindsEach F ns es found → F n fs others
      → FindsEach F (ns ++ (n ∷ [])) (es ++ fs) (found ++ others)
  each-last [] n es fs found others (e, f) one =
      (fs, [], others, [], one, (refl, refl), ap (λ z. z ++ fs) e ∙ sym (append-nil fs), ap (λ z. z ++ others) f ∙ sym (append-nil others))
  each-last (m ∷ ns) n es fs found others (a, b, x, y, first, rest, e, f) one = (
    a,
    b ++ fs,
    x,
    y ++ others,
    first,
    each-last ns n b fs y others rest one,
    ap (λ z. z ++ fs) e ∙ append_assoc a b fs,
    ap (λ z. z ++ others) f ∙ append_assoc x y others,
  )

  pub more-none : (old : Option (List Event)) (before : List Text) → FindsMore (FindsEach F []) false old old before before
  more-none old before = ([], [], (refl, refl), refl, more_none old, sym (append-nil before))

  pub more-last : (ns : List Text) (n : Text) (w v : Bool) (old now new : Option (List Event)) (before between after : List Text)
      → FindsMore (FindsEach F ns) w old now before between → FindsMore (F n) v now new between after
      → FindsMore (FindsEach F (ns ++ (n ∷ []))) (w || v) old new before after
  more-last ns n w v old now new before between after (es, found, each, is, e, f) (fs, others, one, has, d, g) = (
    es ++ fs,
    found ++ others,
    each-last ns n es fs found others each one,
    ap (λ b. b || v) is ∙ ap (λ b. walks es || b) has ∙ sym (list_any-append (λ e. is_listing e.call) es fs),
    d ∙ ap (more fs) e ∙ more_more es fs old,
    g ∙ ap (λ z. z ++ others) f ∙ append_assoc before found others,
  )

finds-file : (depth : ℕ) (named : Bool) (name : Text) (es : List Event) (files : List Text) → FindsFile named name es files → Finds depth named name es files
finds-file zero named name es files is = inl is
finds-file (suc d) named name es files is = inl is

module _ (depth : ℕ) (named : Bool) (name : Text) (place : Place) (old now : Option (List Event)) (looked : LooksAt name place old now) where
  pub finds-other : (b : Bool) (before after : List Text) → place ≡ Other → b ≡ (named || is_toml name)
      → after ≡ before ++ (if b then name ∷ [] else []) → FindsMore (Finds depth named name) false old now before after
  finds-other b before after other is added = (
    done (no_folder name) ∷ [],
    if b then name ∷ [] else [],
    finds-file depth named name _ _ (inl (refl, ap (λ c. if c then name ∷ [] else []) is)),
    refl,
    subst (λ p. LooksAt name p old now) other looked,
    added,
  )

  pub finds-unknown : (before after : List Text) → place ≡ Unknown → after ≡ before ++ (name ∷ [])
      → FindsMore (Finds depth named name) false old now before after
  finds-unknown before after unknown added = (
    failed (no_folder name) ∷ [],
    name ∷ [],
    finds-file depth named name _ _ (inr (refl, refl)),
    refl,
    subst (λ p. LooksAt name p old now) unknown looked,
    added,
  )

  module _ (paths : Vec (String Global) Global) (is : place ≡ Folder paths) where
    listing-is : LooksAt name (Folder paths) old now
    listing-is = subst (λ p. LooksAt name p old now) is looked

    pub finds-folder : (d : ℕ) (w : Bool) (new : Option (List Event)) (before after : List Text) → depth ≡ suc d
        → FindsMore (FindsEach (Finds d false) (map string_bytes paths.items)) w now new before after → FindsMore (Finds depth named name) true old new before after
    finds-folder d w new before after deep (es, files, each, walked, e, f) =
        subst (λ (n : ℕ). FindsMore (Finds n named name) true old new before after) (sym deep) (
          done (listed name listing-is.0) ∷ es,
          files,
          inr (listing-is.0, es, refl, subst (λ (ps : List Text). FindsEach (Finds d false) ps es files) listing-is.1 each),
          refl,
          e ∙ ap (more es) listing-is.2 ∙ more_more (done (listed name listing-is.0) ∷ []) es old,
          f,
        )

    pub finds-deep : (before after : List Text) → depth ≡ 0 → after ≡ before ++ (name ∷ []) → FindsMore (Finds depth named name) true old now before after
    finds-deep before after deep added =
        subst (λ (n : ℕ). FindsMore (Finds n named name) true old now before after) (sym deep)
        (done (listed name listing-is.0) ∷ [], name ∷ [], inr (listing-is.0, refl, refl), refl, listing-is.2, added)

-- standard input
pub finds-stream : (name : Text) (old : Option (List Event)) (before after : List Text) → is_stream name ≡ true → after ≡ before ++ (name ∷ [])
    → FindsMore (FindsNamed name) false old old before after
finds-stream name old before after is added =
    let none : List Event = [] in let one : List Text = name ∷ [] in
    (none, one, subst (λ b. MatchBool b ((none ≡ []) × (one ≡ name ∷ [])) (Finds DEPTH true name none one)) (sym is) (refl, refl), refl, more_none old, added)

-- a file that is named, or a folder
pub finds-named : (name : Text) (w : Bool) (old new : Option (List Event)) (before after : List Text) → is_stream name ≡ false
    → FindsMore (Finds DEPTH true name) w old new before after → FindsMore (FindsNamed name) w old new before after
finds-named name w old new before after is (es, files, found, walked, e, f) =
    (es, files, subst (λ b. MatchBool b ((es ≡ []) × (files ≡ name ∷ [])) (Finds DEPTH true name es files)) (sym is) found, walked, e, f)

-- ---- the turn of a loop over names

module _ (F : Text → List Event → List Text → Type 0) (ps : List (String Global)) (i : ℕ) where
  pub more-path : (d : String Global) → i < length ps → (path : Text) → path ≡ string_bytes (get_or ps i d) → (w v : Bool)
      (old now new : Option (List Event)) (before between after : List Text) → FindsMore (FindsEach F (map string_bytes (take i ps))) w old now before between
      → FindsMore (F path) v now new between after → FindsMore (FindsEach F (map string_bytes (take (i + 1) ps))) (w || v) old new before after
  more-path d below path is w v old now new before between after so one =
      subst (λ (ns : List Text). FindsMore (FindsEach F ns) (w || v) old new before after) (sym (names-more ps i d below))
      (more-last F (map string_bytes (take i ps)) (string_bytes (get_or ps i d)) w v old now new before between after so
      (subst (λ (n : Text). FindsMore (F n) v now new between after) is one))

  pub all-paths : length ps ≤ i → (all : List (String Global)) → ps ≡ all → (w : Bool) (old new : Option (List Event)) (before after : List Text)
      → FindsMore (FindsEach F (map string_bytes (take i ps))) w old new before after → FindsMore (FindsEach F (map string_bytes all)) w old new before after
  all-paths past all is w old new before after so =
      subst (λ (ns : List (String Global)). FindsMore (FindsEach F (map string_bytes ns)) w old new before after) (take_all i ps past ∙ is) so

module _ (F : Text → List Event → List Text → Type 0) (ns : List (Bor Text)) (i : ℕ) where
  pub more-name : (d : Bor Text) → i < length ns → (w v : Bool) (old now new : Option (List Event)) (before between after : List Text)
      → FindsMore (FindsEach F (map (λ n. n.now) (take i ns))) w old now before between → FindsMore (F (get_or ns i d).now) v now new between after
      → FindsMore (FindsEach F (map (λ n. n.now) (take (i + 1) ns))) (w || v) old new before after
  more-name d below w v old now new before between after so one =
      subst (λ (ms : List Text). FindsMore (FindsEach F ms) (w || v) old new before after)
      (sym (ap (map (λ (n : Bor Text). n.now)) (take_more ns i d below) ∙ map-last (λ (n : Bor Text). n.now) (take i ns) (get_or ns i d ∷ [])))
      (more-last F (map (λ n. n.now) (take i ns)) (get_or ns i d).now w v old now new before between after so one)

  pub all-names : length ns ≤ i → (w : Bool) (old new : Option (List Event)) (before after : List Text)
      → FindsMore (FindsEach F (map (λ n. n.now) (take i ns))) w old new before after → FindsMore (FindsEach F (map (λ n. n.now) ns)) w old new before after
  all-names past w old new before after so =
      subst (λ (ms : List (Bor Text)). FindsMore (FindsEach F (map (λ n. n.now) ms)) w old new before after) (take_all i ns past) so
