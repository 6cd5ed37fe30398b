-- The releases of a name that was found in a catalog.
use Rattle.std.proofs.Common.{◌≡◌, ◌<◌, ◌≤◌, ◌^◌, ℕ, List, [], ◌∷◌, length, find, cond, Bool, true, false, Option, Some, None, option_map, sym, ap, ◌∙◌, arith}
use Rattle.std.specs.Borrow.{Bor}
use Rattle.std.specs.Str.{bytes_eq}
use Rattle.ul_requirement.specs.Fields.{PackageFields}
use Rattle.ul_index.specs.Catalogs.{IsCatalog, Packages, release_count, releases_in, releases_of}

viewed : (o : Option (Bor PackageFields)) (x : Bor PackageFields) → o ≡ Some x → option_map (λ p. p.now) o ≡ Some x.now
viewed o x e = ap (option_map (λ p. p.now)) e

-- the package that was found has the releases of the name
pub releases_found : (c ps : Packages) (n : List ℕ) (o : Option (Bor PackageFields)) (x : Bor PackageFields) → ps ≡ c → o ≡ Some x
    → option_map (λ p. p.now) o ≡ find (λ p. bytes_eq p.name n) ps → x.now.releases ≡ releases_of c n
unfolding releases_of
releases_found c ps n o x same e found =
    ap releases_in (sym (viewed o x e) ∙ found ∙ ap (find (λ p. bytes_eq p.name n)) same)

-- where none was found the name has no releases
pub none_found_of : (c ps : Packages) (n : List ℕ) (o : Option (Bor PackageFields)) → ps ≡ c → o ≡ None
    → option_map (λ p. p.now) o ≡ find (λ p. bytes_eq p.name n) ps → [] ≡ releases_of c n
unfolding releases_of
none_found_of c ps n o same e found =
    ap releases_in (sym (ap (option_map (λ p. p.now)) e) ∙ found ∙ ap (find (λ p. bytes_eq p.name n)) same)

at_most : (p : PackageFields) (ps : Packages) (b : Bool) (o : Option PackageFields) → length (releases_in o) ≤ release_count ps → length (releases_in (cond b (Some p) o)) ≤ release_count (p ∷ ps)
at_most p ps true o h = omega arith
at_most p ps false o h = omega (arith, h)

found_few : (test : PackageFields → Bool) (c : Packages) → length (releases_in (find test c)) ≤ release_count c
found_few test [] = omega arith
found_few test (p ∷ ps) = at_most p ps (test p) (find test ps) (found_few test ps)

-- a name has fewer releases than all together may be
pub few_found : (c : Packages) (n : List ℕ) → IsCatalog c → length (releases_of c n) < 2 ^ 32
unfolding releases_of
few_found c n h = omega (arith, found_few (λ p. bytes_eq p.name n) c, h.few)
