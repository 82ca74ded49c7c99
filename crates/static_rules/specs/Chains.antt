-- Chains of calls. Functions have their numbers, and `bodies` has the sites of each.
use Rattle.std.specs.Prelude.{ℕ, zero, suc, ◌==◌, Bool, false, ◌&&◌, ◌||◌, if◌then◌else◌, List, [], ◌++◌, length, get_or}
use Rattle.std.specs.List.{list_any}
use Rattle.static_rules.specs.declared.site.Site.{Site}
use Rattle.static_rules.specs.declared.site.Site.TheVariants as sites

-- the site is a call of this function
abbrev pub is_call_of : ℕ → Site → Bool
is_call_of g (sites.Call f place) = f == g
is_call_of g (sites.Use r place) = false

-- some of these sites is a call of this function
abbrev pub calls : List Site → ℕ → Bool
calls ss g = list_any (is_call_of g) ss

-- the sites of a function, and none where there is no such function
abbrev pub body : List (List Site) → ℕ → List Site
body bodies f = get_or bodies f []

-- it holds for some number below this one
abbrev pub any_below : (ℕ → Bool) → ℕ → Bool
any_below p zero = false
any_below p (suc n) = any_below p n || p n

-- the lists for the numbers below this one, one after another
abbrev pub all_below : {X : Type 0} → (ℕ → List X) → ℕ → List X
all_below f zero = []
all_below f (suc n) = all_below f n ++ f n

-- some chain of calls that begins with one of these sites has, after so many calls, one of this function
unfoldable pub called_after : List (List Site) → List Site → ℕ → ℕ → Bool
called_after bodies start zero g = calls start g
called_after bodies start (suc n) g = any_below (λ f. called_after bodies start n f && calls (body bodies f) g) (length bodies)

-- some chain of calls that begins with one of these sites leads to this function. It need not have more calls than there are functions: where
-- it has, it comes to some function twice, and what lies between may be left out
unfoldable pub reaches : List (List Site) → List Site → ℕ → Bool
reaches bodies start g = any_below (λ n. called_after bodies start n g) (length bodies)

-- the sites of all functions that pass a test
abbrev pub sites_of_those : List (List Site) → (ℕ → Bool) → List Site
sites_of_those bodies test = all_below (λ f. if test f then body bodies f else []) (length bodies)

-- these sites, and those of all functions to which they lead
abbrev pub reached_sites : List (List Site) → List Site → List Site
reached_sites bodies start = start ++ sites_of_those bodies (reaches bodies start)
