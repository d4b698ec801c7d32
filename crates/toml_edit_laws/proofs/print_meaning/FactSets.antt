-- Facts as sets: what is printed has the facts of what is shown, and those of the tables around it.
use Rattle.std.proofs.Common.{◌≡◌, ◌⊎◌, refl, sym, ◌∙◌, ap, subst, inl, inr, Bool, true, false, List, [], ◌∷◌, ◌++◌, append_assoc}
use Rattle.std.specs.Prelude.{◌&&◌, ◌||◌, not, if◌then◌else◌}
use Rattle.toml_edit_model.specs.Meaning.{Fact}
use Rattle.toml_edit_laws.proofs.common.Members.{Among, among-left, among-right, among-cases}

-- ---- one list's facts are among the other's

abbrev pub Within : List Fact → List Fact → Type 0
Within fs gs = (f : Fact) → Among f fs → Among f gs

abbrev pub Alike : List Fact → List Fact → Type 0
Alike fs gs = Within fs gs × Within gs fs

pub within-cons : (f : Fact) (fs gs : List Fact) → Within fs gs → Within (f ∷ fs) (f ∷ gs)
within-cons f fs gs h g (inl e) = inl e
within-cons f fs gs h g (inr a) = inr (h g a)

pub within-append : (fs gs hs ks : List Fact) → Within fs gs → Within hs ks → Within (fs ++ hs) (gs ++ ks)
within-append fs gs hs ks a b f m =
    elim (among-cases f fs hs m) [ inl x ↦ among-left f gs ks (a f x) | inr x ↦ among-right f gs ks (b f x) ]

pub alike-cons : (f : Fact) (fs gs : List Fact) → Alike fs gs → Alike (f ∷ fs) (f ∷ gs)
alike-cons f fs gs h = (within-cons f fs gs h.0, within-cons f gs fs h.1)

pub alike-append : (fs gs hs ks : List Fact) → Alike fs gs → Alike hs ks → Alike (fs ++ hs) (gs ++ ks)
alike-append fs gs hs ks a b = (within-append fs gs hs ks a.0 b.0, within-append gs fs ks hs a.1 b.1)

pub alike-same : (fs gs : List Fact) → fs ≡ gs → Alike fs gs
alike-same fs gs e = (λ f a. subst (Among f) e a, λ f a. subst (Among f) (sym e) a)

pub alike-then : (fs gs hs : List Fact) → Alike fs gs → Alike gs hs → Alike fs hs
alike-then fs gs hs a b = (λ f m. b.0 f (a.0 f m), λ f m. a.1 f (b.1 f m))

-- the middle two of four lists change places
pub regroup : (ks ls ms ns : List Fact) → Alike ((ks ++ ls) ++ (ms ++ ns)) ((ks ++ ms) ++ (ls ++ ns))
regroup ks ls ms ns = (turn ks ls ms ns, turn ks ms ls ns)
  where
    turn : (ks ls ms ns : List Fact) → Within ((ks ++ ls) ++ (ms ++ ns)) ((ks ++ ms) ++ (ls ++ ns))
    turn ks ls ms ns f m =
        elim (among-cases f (ks ++ ls) (ms ++ ns) m) [
          | inl a ↦
              elim (among-cases f ks ls a) [
                | inl x ↦ among-left f (ks ++ ms) (ls ++ ns) (among-left f ks ms x)
                | inr x ↦ among-right f (ks ++ ms) (ls ++ ns) (among-left f ls ns x)
              ]
          | inr a ↦
              elim (among-cases f ms ns a) [
                | inl x ↦ among-left f (ks ++ ms) (ls ++ ns) (among-right f ks ms x)
                | inr x ↦ among-right f (ks ++ ms) (ls ++ ns) (among-right f ls ns x)
              ]
        ]

-- ---- what is shown is printed, with what is around it

-- The printed facts are those of what is shown, and where it is shown at all, those of the tables around it.
pub record Tells (shown : Bool) (around : List Fact) (facts : List Fact) (printed : List Fact) : Type 0 where
  pub forth : (f : Fact) → Among f printed → Among f facts ⊎ ((shown ≡ true) × Among f around)
  pub back : (f : Fact) → Among f facts → Among f printed
  pub up : shown ≡ true → Within around printed

pub tells-nothing : (around : List Fact) → Tells false around [] []
tells-nothing around = record { forth = λ f a. elim a [ ]; back = λ f a. a; up = λ e. absurd cc }

pub tells-alike : (s : Bool) (around facts xs ys : List Fact) → Alike xs ys → Tells s around facts xs → Tells s around facts ys
tells-alike s around facts xs ys e t =
    record { forth = λ f a. t.forth f (e.1 f a); back = λ f a. e.0 f (t.back f a); up = λ h f a. e.0 f (t.up h f a) }

-- one thing after another
pub tells-both : (a b : Bool) (around xs ys us vs : List Fact) → Tells a around xs us → Tells b around ys vs
    → Tells (a || b) around (xs ++ ys) (us ++ vs)
tells-both a b around xs ys us vs t u =
    record { forth = forth; back = within-append xs us ys vs t.back u.back; up = λ h. up a b refl refl h }
  where
    or-first : (a b : Bool) → a ≡ true → (a || b) ≡ true
    or-first a b e = rw e refl

    or-second : (a b : Bool) → b ≡ true → (a || b) ≡ true
    or-second true b e = refl
    or-second false b e = e

    forth : (f : Fact) → Among f (us ++ vs) → Among f (xs ++ ys) ⊎ (((a || b) ≡ true) × Among f around)
    forth f m =
        elim (among-cases f us vs m) [
          | inl x ↦ elim (t.forth f x) [ inl y ↦ inl (among-left f xs ys y) | inr y ↦ inr (or-first a b y.0, y.1) ]
          | inr x ↦ elim (u.forth f x) [ inl y ↦ inl (among-right f xs ys y) | inr y ↦ inr (or-second a b y.0, y.1) ]
        ]

    up : (c d : Bool) → a ≡ c → b ≡ d → (a || b) ≡ true → Within around (us ++ vs)
    up true d e g h f m = among-left f us vs (t.up e f m)
    up false true e g h f m = among-right f us vs (u.up g f m)
    up false false e g h f m = absurd (clash (sym h ∙ ap (λ x. x || b) e ∙ g))
      where
        clash : true ≡ false → ⊥
        clash e = cc

-- a value among its tables
pub tells-value : (around xs us : List Fact) → Alike us xs → Tells true around xs (around ++ us)
tells-value around xs us h =
    record {
      forth = λ f m. elim (among-cases f around us m) [ inl a ↦ inr (refl, a) | inr a ↦ inl (h.0 f a) ];
      back = λ f a. among-right f around us (h.1 f a);
      up = λ e f a. among-left f around us a;
    }

-- one fact of its own, at the level above
pub tells-above : (s : Bool) (around xs us : List Fact) (g : Fact) → ((f : Fact) → Among f xs → s ≡ true)
    → Tells s (around ++ (g ∷ [])) xs us
    → Tells s around (if s then g ∷ xs else []) us
tells-above false around xs us g h t =
    record {
      forth = λ f a. elim (t.forth f a) [ inl x ↦ absurd (clash (h f x)) | inr x ↦ absurd (clash x.0) ];
      back = λ f a. elim a [ ];
      up = λ e. absurd (clash e);
    }
  where
    clash : false ≡ true → ⊥
    clash e = cc
tells-above true around xs us g h t =
    record {
      forth = λ f a.
          elim (t.forth f a) [
            | inl x ↦ inl (inr x)
            | inr x ↦
                elim (among-cases f around (g ∷ []) x.1) [
                  | inl y ↦ inr (refl, y)
                  | inr y ↦
                      inl (elim y [ inl e ↦ inl e | inr z ↦ absurd z ])
                ]
          ];
      back = back;
      up = λ e f a. t.up refl f (among-left f around (g ∷ []) a);
    }
  where
    back : (f : Fact) → Among f (g ∷ xs) → Among f us
    back f (inl e) = t.up refl f (among-right f around (g ∷ []) (inl e))
    back f (inr a) = t.back f a

-- a header of its own
pub tells-headed : (h s : Bool) (around xs us : List Fact) → Tells s around xs us
    → Tells (h || s) around xs ((if h then around else []) ++ us)
tells-headed true s around xs us t =
    record {
      forth = λ f m.
          elim (among-cases f around us m) [
            | inl a ↦ inr (refl, a)
            | inr a ↦ elim (t.forth f a) [ inl x ↦ inl x | inr x ↦ inr (refl, x.1) ]
          ];
      back = λ f a. among-right f around us (t.back f a);
      up = λ e f a. among-left f around us a;
    }
tells-headed false s around xs us t = t

-- with nothing around
pub tells-alone : (s : Bool) (xs us : List Fact) → Tells s [] xs us → Alike us xs
tells-alone s xs us t = (λ f a. elim (t.forth f a) [ inl x ↦ x | inr x ↦ absurd (x.1) ], t.back)

-- a table: its header and its lines, or those of a dotted one
pub tells-table : (dotted implicit rootless lineless s : Bool) (around lines own below xs : List Fact) (g : Fact)
    → rootless ≡ false → (lineless ≡ false → s ≡ true) → ((f : Fact) → Among f xs → s ≡ true)
    → Tells s (around ++ (g ∷ [])) xs (lines ++ below) → Tells s (around ++ (g ∷ [])) xs (own ++ below)
    → Tells (not (dotted || implicit) || s) around (if not (dotted || implicit) || s then g ∷ xs else [])
    ((if dotted then lines else []) ++ ((if dotted then []
    else ((if not rootless && (false || not (implicit && lineless)) then around ++ (g ∷ []) else []) ++ own)) ++ below))
tells-table true i r e s around lines own below xs g root line facts t u = tells-above s around xs (lines ++ below) g facts t
tells-table false true true e s around lines own below xs g root line facts t u = absurd cc
tells-table false true false true s around lines own below xs g root line facts t u = tells-above s around xs (own ++ below) g facts u
tells-table false true false false s around lines own below xs g root line facts t u =
    tells-above s around xs (((around ++ (g ∷ [])) ++ own) ++ below) g facts
    (subst (λ us. Tells s (around ++ (g ∷ [])) xs us) (sym (append_assoc (around ++ (g ∷ [])) own below))
    (subst (λ b. Tells b (around ++ (g ∷ [])) xs ((around ++ (g ∷ [])) ++ (own ++ below))) (sym (line refl)) (tells-headed true s (around
    ++ (g ∷ [])) xs (own ++ below) u)))
tells-table false false true e s around lines own below xs g root line facts t u = absurd cc
tells-table false false false e s around lines own below xs g root line facts t u =
    tells-above true around xs (((around ++ (g ∷ [])) ++ own) ++ below) g (λ f a. refl)
    (subst (λ us. Tells true (around ++ (g ∷ [])) xs us) (sym (append_assoc (around ++ (g ∷ [])) own below)) (tells-headed true s (around
    ++ (g ∷ [])) xs (own ++ below) u))

-- an element, whose header tells of the array and of it
pub tells-element : (s : Bool) (around xs us : List Fact) (g t : Fact) → Tells s around xs us
    → Tells true (around ++ (g ∷ [])) (t ∷ xs) ((around ++ (g ∷ t ∷ [])) ++ us)
tells-element s around xs us g t h = record { forth = forth; back = back; up = λ e. up }
  where
    forth : (f : Fact) → Among f ((around ++ (g ∷ t ∷ [])) ++ us) → Among f (t ∷ xs) ⊎ ((true ≡ true) × Among f (around ++ (g ∷ [])))
    forth f m =
        elim (among-cases f (around ++ (g ∷ t ∷ [])) us m) [
          | inl a ↦
              elim (among-cases f around (g ∷ t ∷ []) a) [
                | inl x ↦ inr (refl, among-left f around (g ∷ []) x)
                | inr x ↦ elim x [
                  | inl e ↦ inr (refl, among-right f around (g ∷ []) (inl e))
                  | inr y ↦
                      elim y [ inl e ↦ inl (inl e) | inr z ↦ absurd z ]
                ]
              ]
          | inr a ↦ elim (h.forth f a) [ inl x ↦ inl (inr x) | inr x ↦ inr (refl, among-left f around (g ∷ []) x.1) ]
        ]

    back : (f : Fact) → Among f (t ∷ xs) → Among f ((around ++ (g ∷ t ∷ [])) ++ us)
    back f (inl e) = among-left f (around ++ (g ∷ t ∷ [])) us (among-right f around (g ∷ t ∷ []) (inr (inl e)))
    back f (inr a) = among-right f (around ++ (g ∷ t ∷ [])) us (h.back f a)

    up : (f : Fact) → Among f (around ++ (g ∷ [])) → Among f ((around ++ (g ∷ t ∷ [])) ++ us)
    up f m =
        among-left f (around ++ (g ∷ t ∷ [])) us
        (elim (among-cases f around (g ∷ []) m) [
          | inl x ↦ among-left f around (g ∷ t ∷ []) x
          | inr x ↦ among-right f around (g ∷ t ∷ []) (elim x [ inl e ↦ inl e | inr z ↦ absurd z ])
        ])
