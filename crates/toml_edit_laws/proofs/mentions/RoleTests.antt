-- Roles of lines and of headers.
use Rattle.std.proofs.Common.{false, Bool, true, refl, ◌≡◌}
use Rattle.std.specs.Prelude.{if◌then◌else◌, ◌&&◌}
use Rattle.toml_edit_laws.proofs.common.Tests.{and_left, and_right}
use Rattle.toml_edit_model.specs.Roles.{Role, header_role, array_role, value_role, dotted_role, continued_role, implied_role, is_array_role}
use Rattle.toml_edit_model.specs.Roles.{is_header_role, ends_path}

abbrev pub is_bracket_role : Role → Bool
is_bracket_role header_role = true
is_bracket_role array_role = true
is_bracket_role _ = false

abbrev pub is_line_role : Role → Bool
is_line_role dotted_role = true
is_line_role value_role = true
is_line_role _ = false

pub array-last : (b : Bool) → ends_path (if b then array_role else header_role) ≡ true
array-last true = refl
array-last false = refl

pub array-bracket : (r : Role) → is_array_role r ≡ true → is_bracket_role r ≡ true
array-bracket array_role h = refl
array-bracket dotted_role h = absurd cc
array-bracket implied_role h = absurd cc
array-bracket header_role h = absurd cc
array-bracket value_role h = absurd cc
array-bracket continued_role h = absurd cc

-- the role of a header's last segment
abbrev pub opening_role : Bool → Role
opening_role is_array = if is_array then array_role else header_role

abbrev pub is_through_role : Role → Bool
is_through_role continued_role = true
is_through_role _ = false

pub header-is : (r : Role) → is_header_role r ≡ true → r ≡ header_role
header-is header_role h = refl
header-is dotted_role h = absurd cc
header-is implied_role h = absurd cc
header-is array_role h = absurd cc
header-is value_role h = absurd cc
header-is continued_role h = absurd cc

-- what holds of the six roles holds of each
abbrev pub every_role : (Role → Bool) → Bool
every_role test = test dotted_role && (test implied_role
    && (test header_role && (test array_role && (test value_role && test continued_role))))

pub by_role : (test : Role → Bool) → every_role test ≡ true → (r : Role) → test r ≡ true
by_role test h dotted_role = and_left (test dotted_role) _ h
by_role test h implied_role = and_left (test implied_role) _ (and_right (test dotted_role) _ h)
by_role test h header_role = and_left (test header_role) _ (and_right (test implied_role) _ (and_right (test dotted_role) _ h))
by_role test h array_role =
    and_left (test array_role) _ (and_right (test header_role) _ (and_right (test implied_role) _ (and_right (test dotted_role) _ h)))
by_role test h value_role =
    and_left (test value_role) (test continued_role)
    (and_right (test array_role) _ (and_right (test header_role) _ (and_right (test implied_role) _ (and_right (test dotted_role) _ h))))
by_role test h continued_role =
    and_right (test value_role) (test continued_role)
    (and_right (test array_role) _ (and_right (test header_role) _ (and_right (test implied_role) _ (and_right (test dotted_role) _ h))))

-- one test where another holds
abbrev pub implies : Bool → Bool → Bool
implies true b = b
implies false b = true

pub implied : (a b : Bool) → implies a b ≡ true → a ≡ true → b ≡ true
implied true b h e = h
implied false b h e = absurd cc

-- a test of two roles
pub by_roles : (test : Role → Role → Bool) → every_role (λ r. every_role (test r)) ≡ true → (r q : Role) → test r q ≡ true
by_roles test h r q = by_role (test r) (by_role (λ s. every_role (test s)) h r) q

-- two roles of lines
pub by_line_roles : (given found : Role → Role → Bool)
    → every_role (λ r. every_role (λ q. implies (is_line_role r) (implies (is_line_role q) (implies (given r q) (found r q))))) ≡ true
    → (r q : Role) → is_line_role r ≡ true → is_line_role q ≡ true → given r q ≡ true → found r q ≡ true
by_line_roles given found all r q h g e =
    implied (given r q) (found r q)
    (implied (is_line_role q) (implies (given r q) (found r q))
    (implied (is_line_role r) (implies (is_line_role q) (implies (given r q) (found r q)))
    (by_roles (λ s t. implies (is_line_role s) (implies (is_line_role t) (implies (given s t) (found s t)))) all r q) h) g) e
