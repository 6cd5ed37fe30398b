-- The package of a document.
use Rattle.std.proofs.Common.{◌≡◌, ℕ, List, refl, codes, length}
use Rattle.std.specs.Prelude.{Ok}
use Rattle.serde_json.specs.Data.{Data}
use Rattle.serde_json.specs.Find.{get}
use Rattle.ul_base.specs.Names.{name_of}
use Rattle.ul_requirement.specs.Fields.{ReleaseFields}
use Rattle.ul_requirement.specs.declared.wish.Prereleases.TheVariants.{IfNecessaryOrExplicit}
use Rattle.ul_index.specs.Documents.{items_at, object_at, package_in, releases_of_items, right_name, text_at}
use Rattle.ul_index.specs.declared.place.Place.TheVariants.{Document, Name, Versions}

-- a document whose parts are all right
pub package-all : (name title : List ℕ) (d : Data) (items : List Data) (releases : List ReleaseFields) (n : ℕ)
    → object_at Document d ≡ Ok tt → text_at Name (get (codes "name") d) ≡ Ok title → items_at Versions (get (codes "versions") d) ≡ Ok items
    → right_name name (name_of title) ≡ Ok tt → releases_of_items items ≡ Ok releases → length items ≡ n
    → package_in name d ≡ Ok (record { name = name; entries = n; prereleases = IfNecessaryOrExplicit; releases = releases })
unfolding package_in
package-all name title d items releases n whole named listed right all few = rw (whole, named, listed, right, all, few) refl
