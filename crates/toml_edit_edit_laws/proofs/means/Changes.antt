-- Changes of facts at or below one path, put together from the changes of parts.
use Rattle.std.proofs.Common.{◌≡◌, ◌⊎◌, refl, sym, ◌∙◌, ap, subst, Bool, true, false, List, [], ◌∷◌, ◌++◌, inl, inr}
use Rattle.std.specs.Prelude.{◌||◌, if◌then◌else◌}
use Rattle.std.specs.List.{AllByRecursion}
use Rattle.toml_edit_model.specs.Paths.{Path}
use Rattle.toml_edit_model.specs.Meaning.{Fact, fact, a_table}
use Rattle.toml_edit_laws.proofs.common.Each.{all-append}
use Rattle.toml_edit_laws.proofs.common.Members.{Among, among-left, among-right, among-cases, all-among}
use Rattle.toml_edit_laws.proofs.common.PathLaws.{is_front}
use Rattle.toml_edit_laws.proofs.common.Tests.{true-false}
use Rattle.toml_edit_laws.proofs.print_meaning.FactSets.{Within}

-- no fact is at the path or below it
abbrev pub OutOf : Path → List Fact → Type 0
OutOf q fs = AllByRecursion (λ f. is_front q f.path ≡ false) fs

-- each fact is at the path or below it, and each is below it
abbrev pub Below : Path → List Fact → Type 0
Below r fs = AllByRecursion (λ f. is_front r f.path ≡ true) fs

abbrev pub Under : Path → List Fact → Type 0
Under q fs = AllByRecursion (λ f. is_front f.path q ≡ false) fs

-- a fact that is there is none of those
pub not-out : (f : Fact) (q : Path) (fs : List Fact) → is_front q f.path ≡ true → OutOf q fs → Among f fs → ⊥
not-out f q fs h o a = true-false (is_front q f.path) h (all-among (λ (g : Fact). is_front q g.path ≡ false) f fs o a)

pub middle : (f : Fact) (q : Path) (xs old ys : List Fact) → is_front q f.path ≡ true → OutOf q xs → OutOf q ys → Among f (xs ++ (old ++ ys))
    → Among f old
middle f q xs old ys h a b m =
    elim (among-cases f xs (old ++ ys) m) [
      | inl x ↦ absurd (not-out f q xs h a x)
      | inr x ↦ elim (among-cases f old ys x) [ inl y ↦ y | inr y ↦ absurd (not-out f q ys h b y) ]
    ]

-- At a place and below it facts are mapped, and some are added; some of the others may go.
pub record Change : Type 1 where
  pub place : Path
  pub on : List Fact → List Fact
  pub adds : List Fact
  pub MayGo : Fact → Type 0
  pub none : on [] ≡ []
  pub append : (xs ys : List Fact) → on (xs ++ ys) ≡ on xs ++ on ys
  pub others : (f : Fact) → is_front place f.path ≡ false → on (f ∷ []) ≡ f ∷ []
  pub gone : (f : Fact) (fs : List Fact) → Among f (on fs ++ adds) → MayGo f → Among f fs

module _ (c : Change) where
  -- the second facts are the first, so changed; with one that goes, all below it go
  abbrev pub Changes : List Fact → List Fact → Type 0
  Changes old new =
      Within new (c.on old ++ c.adds)
      × ((f : Fact) → Among f (c.on old ++ c.adds) → Among f new ⊎ (c.MayGo f × OutOf f.path new))

  -- tables above the place may go
  abbrev pub TablesMayGo : Type 0
  TablesMayGo = (q : Path) → is_front c.place q ≡ false → is_front q c.place ≡ true → c.MayGo (fact q a_table)

  pub out-stays : (fs : List Fact) → OutOf c.place fs → c.on fs ≡ fs
  out-stays [] h = c.none
  out-stays (f ∷ fs) h = c.append (f ∷ []) fs ∙ ap (λ xs. xs ++ c.on fs) (c.others f h.0) ∙ ap (λ xs. f ∷ xs) (out-stays fs h.1)

  pub nothing-changes : c.adds ≡ [] → Changes [] []
  nothing-changes e =
      let is : c.on [] ++ c.adds ≡ [] = ap (λ xs. xs ++ c.adds) c.none ∙ e in
      (λ f a. elim a [ ], λ f a. inl (subst (Among f) is a))

  around-is : (xs old ys : List Fact) → OutOf c.place xs → OutOf c.place ys → c.on (xs ++ (old ++ ys)) ≡ xs ++ (c.on old ++ ys)
  around-is xs old ys a b =
      c.append xs (old ++ ys) ∙ ap (λ zs. zs ++ c.on (old ++ ys)) (out-stays xs a)
      ∙ ap (λ zs. xs ++ zs) (c.append old ys ∙ ap (λ zs. c.on old ++ zs) (out-stays ys b))

  -- one part at a path among others, which are elsewhere
  pub changes-around : (r : Path) (xs old new ys : List Fact) → is_front r c.place ≡ true → Below r old
      → ((q : Path) → is_front r q ≡ true → OutOf q xs × OutOf q ys) → Changes old new
      → Changes (xs ++ (old ++ ys)) (xs ++ (new ++ ys))
  changes-around r xs old new ys at below out h =
      let o = out c.place at in
      let all : c.on (xs ++ (old ++ ys)) ++ c.adds ≡ (xs ++ (c.on old ++ ys)) ++ c.adds =
      ap (λ zs. zs ++ c.adds) (around-is xs old ys o.0 o.1) in (
        λ f m. subst (Among f) (sym all) (forth f m),
        λ f m. back f (subst (Among f) all m),
      )
    where
      forth : (f : Fact) → Among f (xs ++ (new ++ ys)) → Among f ((xs ++ (c.on old ++ ys)) ++ c.adds)
      forth f m =
          let whole = xs ++ (c.on old ++ ys) in
          elim (among-cases f xs (new ++ ys) m) [
            | inl x ↦ among-left f whole c.adds (among-left f xs (c.on old ++ ys) x)
            | inr x ↦
                elim (among-cases f new ys x) [
                  | inl y ↦
                      elim (among-cases f (c.on old) c.adds (h.0 f y)) [
                        | inl z ↦ among-left f whole c.adds (among-right f xs (c.on old ++ ys) (among-left f (c.on old) ys z))
                        | inr z ↦ among-right f whole c.adds z
                      ]
                  | inr y ↦ among-left f whole c.adds (among-right f xs (c.on old ++ ys) (among-right f (c.on old) ys y))
                ]
          ]

      part : (f : Fact) → Among f (c.on old ++ c.adds) → Among f (xs ++ (new ++ ys)) ⊎ (c.MayGo f × OutOf f.path (xs ++ (new ++ ys)))
      part f m =
          elim (h.1 f m) [
            | inl x ↦ inl (among-right f xs (new ++ ys) (among-left f new ys x))
            | inr x ↦
                (let o = out f.path (all-among (λ (g : Fact). is_front r g.path ≡ true) f old below (c.gone f old m x.0)) in
                let none = λ (g : Fact). is_front f.path g.path ≡ false in
                inr (x.0, all-append none xs (new ++ ys) o.0 (all-append none new ys x.1 o.1)))
          ]

      back : (f : Fact) → Among f ((xs ++ (c.on old ++ ys)) ++ c.adds)
          → Among f (xs ++ (new ++ ys)) ⊎ (c.MayGo f × OutOf f.path (xs ++ (new ++ ys)))
      back f m =
          elim (among-cases f (xs ++ (c.on old ++ ys)) c.adds m) [
            | inl x ↦
                elim (among-cases f xs (c.on old ++ ys) x) [
                  | inl y ↦ inl (among-left f xs (new ++ ys) y)
                  | inr y ↦
                      elim (among-cases f (c.on old) ys y) [
                        | inl z ↦ part f (among-left f (c.on old) c.adds z)
                        | inr z ↦ inl (among-right f xs (new ++ ys) (among-right f new ys z))
                      ]
                ]
            | inr x ↦ part f (among-right f (c.on old) c.adds x)
          ]

  -- after a fact elsewhere, which the others are below
  pub changes-cons : (g : Fact) (old new : List Fact) → is_front c.place g.path ≡ false → Under g.path old → Changes old new
      → Changes (g ∷ old) (g ∷ new)
  changes-cons g old new o under h =
      let is : c.on (g ∷ old) ++ c.adds ≡ g ∷ (c.on old ++ c.adds) =
      ap (λ xs. xs ++ c.adds) (c.append (g ∷ []) old ∙ ap (λ xs. xs ++ c.on old) (c.others g o)) in (
        λ f m. subst (Among f) (sym is) (elim m [ inl e ↦ inl e | inr a ↦ inr (h.0 f a) ]),
        λ f m.
            elim (subst (Among f) is m) [
              | inl e ↦ inl (inl e)
              | inr a ↦
                  elim (h.1 f a) [
                    | inl x ↦ inl (inr x)
                    | inr x ↦ inr (x.0, (all-among (λ (z : Fact). is_front z.path g.path ≡ false) f old under (c.gone f old a x.0), x.1))
                  ]
            ],
      )

  -- ---- a table, by whether it is shown for its own sake, and whether for its slots

  pub table-changes : (own s r : Bool) (q : Path) (xs ys : List Fact) → is_front c.place q ≡ false → is_front q c.place ≡ true
      → Under q xs → Changes xs ys → (r ≡ true → s ≡ true) → (s ≡ true → r ≡ true) ⊎ TablesMayGo → (s ≡ false → xs ≡ []) → (r ≡ false → ys ≡ [])
      → Changes (if own || s then fact q a_table ∷ xs else []) (if own || r then fact q a_table ∷ ys else [])
  table-changes true s r q xs ys out above under h up down old new = changes-cons (fact q a_table) xs ys out under h
  table-changes false true true q xs ys out above under h up down old new = changes-cons (fact q a_table) xs ys out under h
  table-changes false false true q xs ys out above under h up down old new = absurd (clash (up refl))
    where
      clash : false ≡ true → ⊥
      clash e = cc
  table-changes false false false q xs ys out above under h up down old new =
      subst (λ zs. Changes zs []) (old refl) (subst (λ zs. Changes xs zs) (new refl) h)
  table-changes false true false q xs ys out above under h up (inl down) old new = absurd (clash (down refl))
    where
      clash : false ≡ true → ⊥
      clash e = cc
  table-changes false true false q xs ys out above under h up (inr go) old new =
      let g : Fact = fact q a_table in
      let is : c.on (g ∷ xs) ++ c.adds ≡ g ∷ (c.on xs ++ c.adds) =
      ap (λ zs. zs ++ c.adds) (c.append (g ∷ []) xs ∙ ap (λ zs. zs ++ c.on xs) (c.others g out)) in
      let gone : Changes xs [] = subst (λ zs. Changes xs zs) (new refl) h in (
        λ f a. elim a [ ],
        λ f m.
            elim (subst (Among f) is m) [
              | inl e ↦ inr (subst c.MayGo (sym e) (go q out above), tt)
              | inr a ↦ gone.1 f a
            ],
      )
