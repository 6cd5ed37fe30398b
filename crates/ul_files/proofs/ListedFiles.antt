-- Files of a list, found by an index of their paths.
use Rattle.std.proofs.Common.{◌≡◌, ℕ, ◌<◌, ◌+◌, suc, length, List, ◌∷◌, drop, get_or, Bool, true, false, cond, Option, Some, Vec, String, string_bytes, refl, sym, ap, subst, arith, drop-cons, bytes_eq}
use Rattle.std.specs.declared.alloc.Global.{Global}
use Rattle.std.proofs.lemmas.List.Elements.{at_read}
use Rattle.ul_files.specs.Files.{files_of, content}
use Rattle.ul_files.specs.ListedFiles.{SaysAt}

says_either : (list : List (String Global × Vec ℕ Global)) (p : ℕ) (path : List ℕ) (x : String Global × Vec ℕ Global) (rest : List (String Global × Vec ℕ Global)) (before : Option ℕ) (b : Bool) →
    p < length list → ((d : String Global × Vec ℕ Global) → x ≡ get_or list p d) → SaysAt list before (content (files_of rest) path) →
    SaysAt list (cond b (Some p) before) (cond b (Some x.1.items) (content (files_of rest) path))
says_either list p path x rest before true l e h = (l, λ d. ap (λ (y : String Global × Vec ℕ Global). Some y.1.items) (e d))
says_either list p path x rest before false l e h = h

-- with the pair at p the index says what the pairs from p on say
pub says_more : (list : List (String Global × Vec ℕ Global)) (p n : ℕ) (path bs : List ℕ) (before after : Option ℕ) (x : String Global × Vec ℕ Global) →
    n ≡ p + 1 → p < length list → x ≡ get_or list p x → bs ≡ string_bytes x.0 → after ≡ cond (bytes_eq bs path) (Some p) before →
    SaysAt list before (content (files_of (drop n list)) path) → SaysAt list after (content (files_of (drop p list)) path)
says_more list p n path bs before after x k l e s u h =
    let start : drop p list ≡ get_or list p x ∷ drop (suc p) list = drop-cons list p x l in
    let next : suc p ≡ n = omega arith in
    let cut : drop p list ≡ x ∷ drop n list = cc in
    let at_p : (d : String Global × Vec ℕ Global) → x ≡ get_or list p d = at_read list (λ y. x ≡ y) p x l e refl in
    let both = says_either list p path x (drop n list) before (bytes_eq bs path) l at_p h in
    let found : List (String Global × Vec ℕ Global) → Option (List ℕ) = λ ys. content (files_of ys) path in
    let named = subst (λ t. SaysAt list (cond (bytes_eq bs path) (Some p) before) (cond (bytes_eq t path) (Some x.1.items) (found (drop n list)))) s both in
    subst (λ ys. SaysAt list after (found ys)) (sym cut) (subst (λ o. SaysAt list o (found (x ∷ drop n list))) (sym u) named)
