-- The index of a catalog.
use Rattle.std.proofs.Common.{◌≡◌, ◌+◌, ◌<◌, ℕ, List, ◌∷◌, drop, length, find, get_or, Bool, true, false, cond, Option, Some, refl, sym, ap, ◌∙◌}
use Rattle.std.proofs.lemmas.List.{drop_more}
use Rattle.std.proofs.lemmas.Option.{slice_get_read}
use Rattle.std.specs.List.{slice_get}
use Rattle.std.specs.Str.{bytes_eq}
use Rattle.ul_requirement.specs.Fields.{PackageFields}
use Rattle.ul_index.specs.Catalogs.{Packages}
use Rattle.ul_index.specs.Results.{option_bind}

-- the first package of a name from a place on
abbrev pub found_from : Packages → ℕ → List ℕ → Option PackageFields
found_from packages place name = find (λ p. bytes_eq p.name name) (drop place packages)

one_more : (same : Bool) (packages : Packages) (i : ℕ) (p : PackageFields) (found : Option PackageFields) (was : Option ℕ)
    → slice_get packages i ≡ Some p → option_bind was (slice_get packages) ≡ found
    → option_bind (cond same (Some i) was) (slice_get packages) ≡ cond same (Some p) found
one_more true packages i p found was here have = here
one_more false packages i p found was here have = have

-- a place before the ones that are known
pub places-more : (packages : Packages) (n i : ℕ) (p : PackageFields) (key name : List ℕ) (was now : Option ℕ)
    → n ≡ i + 1 → i < length packages → p ≡ get_or packages i p → key ≡ p.name → now ≡ cond (bytes_eq key name) (Some i) was
    → option_bind was (slice_get packages) ≡ found_from packages n name
    → option_bind now (slice_get packages) ≡ found_from packages i name
places-more packages n i p key name was now e lt at keyed is have =
    let here : drop i packages ≡ p ∷ drop n packages =
    drop_more packages i p lt ∙ ap (λ x. x ∷ drop (i + 1) packages) (sym at) ∙ ap (λ m. p ∷ drop m packages) (sym e) in
    let there : slice_get packages i ≡ Some p = slice_get_read packages (length packages) i p refl lt at in
    ap (λ o. option_bind o (slice_get packages)) (is ∙ ap (λ k. cond (bytes_eq k name) (Some i) was) keyed)
    ∙ one_more (bytes_eq p.name name) packages i p (found_from packages n name) was there have
    ∙ sym (rw here refl)
