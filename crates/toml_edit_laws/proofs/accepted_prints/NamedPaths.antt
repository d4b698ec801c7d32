-- What statements say of paths, by the names of their keys alone: the path and role of each mention.
use Rattle.std.proofs.Common.{◌≡◌, refl, sym, ◌∙◌, ap, subst, ℕ, true, List, [], ◌∷◌, ◌++◌, append_assoc}
use Rattle.std.specs.Prelude.{map}
use Rattle.std.specs.List.{AllByRecursion}
use Rattle.toml_edit_model.specs.Mode.{Mode}
use Rattle.toml_edit_model.specs.Text.{Text}
use Rattle.toml_edit_model.specs.Syntax.{Segment}
use Rattle.toml_edit_model.specs.Paths.{at_key, Path, to_key, line_mentions, next_start, elements_at, in_last, passing_role}
use Rattle.toml_edit_model.specs.Paths.{header_mentions, header_path}
use Rattle.toml_edit_model.specs.Tree.{Key}
use Rattle.toml_edit_model.specs.HeaderOrder.{Visit}
use Rattle.toml_edit_model.specs.Print.{segments_after, segments, below}
use Rattle.toml_edit_laws.proofs.common.Tests.{append-nil}
use Rattle.toml_edit_laws.proofs.accepted_prints.Spots.{Spot, suits}
use Rattle.toml_edit_laws.proofs.accepted_prints.WalkPlaces.{Trail, start, to_table, to_item, trail_path, trail_keys, Led}
use Rattle.toml_edit_laws.proofs.accepted_prints.HeaderReach.{RightBy}
use Rattle.toml_edit_laws.proofs.common.Cores.{Core, core, keys_of_segments, line_cores}
use Rattle.toml_edit_laws.proofs.common.Each.{all-append}
use Rattle.toml_edit_model.specs.Roles.{Role, dotted_role, value_role}
use Rattle.toml_edit_model.specs.Keys.{names}

module _ (mode : Mode) where
  pub segments-names : (ks : List Key) → keys_of_segments (segments mode ks) ≡ names ks
  segments-names [] = refl
  segments-names (k ∷ []) = refl
  segments-names (k ∷ l ∷ ks) = ap (λ ns. k.name ∷ ns) (after (l ∷ ks))
    where
      after : (ks : List Key) → keys_of_segments (segments_after mode ks) ≡ names ks
      after [] = refl
      after (k ∷ []) = refl
      after (k ∷ l ∷ ks) = ap (λ ns. k.name ∷ ns) (after (l ∷ ks))

pub names-snoc : (ks : List Key) (k : Key) → names (ks ++ (k ∷ [])) ≡ names ks ++ (k.name ∷ [])
names-snoc [] k = refl
names-snoc (l ∷ ks) k = ap (λ ns. l.name ∷ ns) (names-snoc ks k)

-- ---- key lines

pub line-told : {S : Type 0} (source : S) (byte : ℕ) (p : Path) (ss : List Segment) → map core (line_mentions source byte p ss)
    ≡ line_cores p (keys_of_segments ss)
line-told source byte p [] = refl
line-told source byte p (s ∷ []) = refl
line-told source byte p (s ∷ r ∷ rest) =
    ap (λ ts. (to_key p s.key, dotted_role) ∷ ts) (line-told source (next_start byte s) (to_key p s.key) (r ∷ rest))

-- so many keys down
abbrev pub down : Path → List Text → Path
down p [] = p
down p (n ∷ ns) = down (to_key p n) ns

abbrev pub dotted_told : Path → List Text → List Core
dotted_told p [] = []
dotted_told p (n ∷ ns) = (to_key p n, dotted_role) ∷ dotted_told (to_key p n) ns

pub down-snoc : (p : Path) (ns : List Text) (n : Text) → down p (ns ++ (n ∷ [])) ≡ to_key (down p ns) n
down-snoc p [] n = refl
down-snoc p (m ∷ ns) n = down-snoc (to_key p m) ns n

pub dotted-snoc : (p : Path) (ns : List Text) (n : Text) → dotted_told p (ns ++ (n ∷ [])) ≡ dotted_told p ns
    ++ ((to_key (down p ns) n, dotted_role) ∷ [])
dotted-snoc p [] n = refl
dotted-snoc p (m ∷ ns) n = ap (λ ts. (to_key p m, dotted_role) ∷ ts) (dotted-snoc (to_key p m) ns n)

pub line-snoc : (p : Path) (ns : List Text) (n : Text) → line_cores p (ns ++ (n ∷ [])) ≡ dotted_told p ns
    ++ ((to_key (down p ns) n, value_role) ∷ [])
line-snoc p [] n = refl
line-snoc p (m ∷ []) n = refl
line-snoc p (m ∷ k ∷ ns) n = ap (λ ts. (to_key p m, dotted_role) ∷ ts) (line-snoc (to_key p m) (k ∷ ns) n)

pub below-down : (p : Path) (ks : List Key) → below p ks ≡ down p (names ks)
below-down p [] = refl
below-down p (k ∷ ks) = below-down (to_key p k.name) ks

pub down-append : (p : Path) (ns : List Text) → down p ns ≡ p ++ map at_key ns
down-append p [] = sym (append-nil p)
down-append p (n ∷ ns) = down-append (to_key p n) ns ∙ append_assoc p (at_key n ∷ []) (map at_key ns)

-- ---- headers

abbrev pub named_path : List Path → Path → List Text → Path
named_path A p [] = p
named_path A p (n ∷ []) = to_key p n
named_path A p (n ∷ m ∷ rest) = named_path A (in_last (elements_at A (to_key p n)) (to_key p n)) (m ∷ rest)

pub header-named : (A : List Path) (p : Path) (ss : List Segment) → header_path A p ss ≡ named_path A p (keys_of_segments ss)
header-named A p [] = refl
header-named A p (s ∷ []) = refl
header-named A p (s ∷ r ∷ rest) = header-named A (in_last (elements_at A (to_key p s.key)) (to_key p s.key)) (r ∷ rest)

abbrev pub header_told : List Path → Role → Path → List Text → List Core
header_told A role p [] = []
header_told A role p (n ∷ []) = (to_key p n, role) ∷ []
header_told A role p (n ∷ m ∷ rest) =
    (to_key p n, passing_role (elements_at A (to_key p n)))
    ∷ header_told A role (in_last (elements_at A (to_key p n)) (to_key p n)) (m ∷ rest)

pub header-told : {S : Type 0} (source : S) (A : List Path) (role : Role) (byte : ℕ) (p : Path) (ss : List Segment)
    → map core (header_mentions source A role byte p ss) ≡ header_told A role p (keys_of_segments ss)
header-told source A role byte p [] = refl
header-told source A role byte p (s ∷ []) = refl
header-told source A role byte p (s ∷ r ∷ rest) =
    ap (λ ts. (to_key p s.key, passing_role (elements_at A (to_key p s.key))) ∷ ts)
    (header-told source A role (next_start byte s) (in_last (elements_at A (to_key p s.key)) (to_key p s.key)) (r ∷ rest))

-- the path after keys that a header passes
abbrev pub passed : List Path → Path → List Text → Path
passed A p [] = p
passed A p (n ∷ ns) = passed A (in_last (elements_at A (to_key p n)) (to_key p n)) ns

abbrev pub passing_told : List Path → Path → List Text → List Core
passing_told A p [] = []
passing_told A p (n ∷ ns) = (to_key p n, passing_role (elements_at A (to_key p n)))
    ∷ passing_told A (in_last (elements_at A (to_key p n)) (to_key p n)) ns

pub passed-snoc : (A : List Path) (p : Path) (ns : List Text) (n : Text)
    → passed A p (ns ++ (n ∷ [])) ≡ in_last (elements_at A (to_key (passed A p ns) n)) (to_key (passed A p ns) n)
passed-snoc A p [] n = refl
passed-snoc A p (m ∷ ns) n = passed-snoc A (in_last (elements_at A (to_key p m)) (to_key p m)) ns n

pub passing-snoc : (A : List Path) (p : Path) (ns : List Text) (n : Text)
    → passing_told A p (ns ++ (n ∷ [])) ≡ passing_told A p ns
    ++ ((to_key (passed A p ns) n, passing_role (elements_at A (to_key (passed A p ns) n))) ∷ [])
passing-snoc A p [] n = refl
passing-snoc A p (m ∷ ns) n =
    ap (λ ts. (to_key p m, passing_role (elements_at A (to_key p m)))
    ∷ ts) (passing-snoc A (in_last (elements_at A (to_key p m)) (to_key p m)) ns n)

pub named-snoc : (A : List Path) (p : Path) (ns : List Text) (n : Text) → named_path A p (ns ++ (n ∷ [])) ≡ to_key (passed A p ns) n
named-snoc A p [] n = refl
named-snoc A p (m ∷ []) n = refl
named-snoc A p (m ∷ k ∷ ns) n = named-snoc A (in_last (elements_at A (to_key p m)) (to_key p m)) (k ∷ ns) n

pub header-snoc : (A : List Path) (role : Role) (p : Path) (ns : List Text) (n : Text)
    → header_told A role p (ns ++ (n ∷ [])) ≡ passing_told A p ns ++ ((to_key (passed A p ns) n, role) ∷ [])
header-snoc A role p [] n = refl
header-snoc A role p (m ∷ []) n = refl
header-snoc A role p (m ∷ k ∷ ns) n =
    ap (λ ts. (to_key p m, passing_role (elements_at A (to_key p m)))
    ∷ ts) (header-snoc A role (in_last (elements_at A (to_key p m)) (to_key p m)) (k ∷ ns) n)

-- ---- along a way

pub right-same : (c d : Path → ℕ) (r : Trail) → ((q : Path) → c q ≡ d q) → RightBy c r → RightBy d r
right-same c d start e h = tt
right-same c d (to_table r k) e h = (right-same c d r e h.0, sym (e (to_key (trail_path r) k.name)) ∙ h.1)
right-same c d (to_item r k n) e h = (right-same c d r e h.0, sym (e (to_key (trail_path r) k.name)) ∙ h.1)

-- Where the counts are right, the keys of a way lead to its path.
pub passed-trail : (A : List Path) (r : Trail) → RightBy (elements_at A) r → passed A [] (names (trail_keys r)) ≡ trail_path r
passed-trail A start h = refl
passed-trail A (to_table r k) h =
    ap (passed A []) (names-snoc (trail_keys r) k) ∙ passed-snoc A [] (names (trail_keys r)) k.name
    ∙ ap (λ p. in_last (elements_at A (to_key p k.name)) (to_key p k.name)) (passed-trail A r h.0)
    ∙ ap (λ n. in_last n (to_key (trail_path r) k.name)) h.1
passed-trail A (to_item r k n) h =
    ap (passed A []) (names-snoc (trail_keys r) k) ∙ passed-snoc A [] (names (trail_keys r)) k.name
    ∙ ap (λ p. in_last (elements_at A (to_key p k.name)) (to_key p k.name)) (passed-trail A r h.0)
    ∙ ap (λ n. in_last n (to_key (trail_path r) k.name)) h.1

module _ (K : Path → Spot) where
  -- the role suits what stands at the path
  abbrev pub Fit : Core → Type 0
  Fit m = suits m.1 (K m.0) ≡ true

  -- what is said of a way suits what stands along it
  pub passing-fit : (W : List Visit) (A : List Path) (r : Trail) → Led K W r → RightBy (elements_at A) r
      → AllByRecursion Fit (passing_told A [] (names (trail_keys r)))
  passing-fit W A start led h = tt
  passing-fit W A (to_table r k) led h =
      subst (λ ns. AllByRecursion Fit (passing_told A [] ns)) (sym (names-snoc (trail_keys r) k))
      (subst (AllByRecursion Fit) (sym (passing-snoc A [] (names (trail_keys r)) k.name))
      (all-append Fit (passing_told A [] (names (trail_keys r))) _ (passing-fit W A r led.0 h.0)
      (subst (λ p. AllByRecursion Fit ((to_key p k.name, passing_role (elements_at A (to_key p k.name))) ∷ [])) (sym (passed-trail A r h.0))
      (subst (λ n. AllByRecursion Fit ((to_key (trail_path r) k.name, passing_role n) ∷ [])) (sym h.1) (led.1, tt)))))
  passing-fit W A (to_item r k n) led h =
      subst (λ ns. AllByRecursion Fit (passing_told A [] ns)) (sym (names-snoc (trail_keys r) k))
      (subst (AllByRecursion Fit) (sym (passing-snoc A [] (names (trail_keys r)) k.name))
      (all-append Fit (passing_told A [] (names (trail_keys r))) _ (passing-fit W A r led.0 h.0)
      (subst (λ p. AllByRecursion Fit ((to_key p k.name, passing_role (elements_at A (to_key p k.name))) ∷ [])) (sym (passed-trail A r h.0))
      (subst (λ n. AllByRecursion Fit ((to_key (trail_path r) k.name, passing_role n) ∷ [])) (sym h.1) (refl, tt)))))
