-- What is certain, read off what is known of a node.
use Rattle.std.proofs.Common.{◌≡◌, ℕ, List, Bool, true, false, not, Option, Some, None, refl, ap, ◌∙◌, sym, subst, ◌<◌, ◌≤◌, arith, length, slice_get, get_or}
use Rattle.std.proofs.lemmas.Bool.{true≢false}
use Rattle.std.proofs.lemmas.Option.{same_Some, slice_get_read}
use Rattle.ul_ranges.specs.Flags.{has}
use Rattle.ul_problem.specs.Terms.{node_of, set_of, allows}
use Rattle.ul_problem.specs.Plain.{Plain, size_of}
use Rattle.ul_problem.specs.declared.term.Term.{Term}
use Rattle.ul_problem.specs.declared.term.Term.TheVariants.{In}
use Rattle.ul_trail.specs.declared.fact.Fact.{Fact}
use Rattle.ul_trail.specs.Facts.{is_open, IsHeld, IsMirror, one_of}
use Rattle.ul_trail.specs.Propagation.{IsAlive}
use Rattle.ul_trail.specs.Counts.{sizes_of}
use Rattle.ul_trail.specs.Standing.{IsStanding}
use Rattle.ul_trail.specs.Certain.{IsCertainAt, IsOnlyMember, IsOnlyOption}
use Rattle.ul_trail.proofs.Following.{one_has}
use Rattle.ul_trail.proofs.Firsts.{one_only}
use Rattle.ul_trail.proofs.Propagating.{sizes_length, sizes_at}

no_version : (n : ℕ) (s : List Bool) → allows (In n s) None ≡ true → ⊥
no_version n s h = true≢false (sym h)

-- the term of a set
pub only_in : (n : ℕ) (s : List Bool) (r : Option ℕ) → IsOnlyMember s r → IsOnlyOption (In n s) r
only_in n s None h = λ v e. (let k = h v e in (Some k.0, k.1, λ z. k.2 (same_Some k.0 v z)))
only_in n s (Some v) h = (h.0, which)
  where
    which : (o : Option ℕ) → allows (In n s) o ≡ true → o ≡ Some v
    which None e = absurd (no_version n s e)
    which (Some k) e = ap Some (h.2 k e)

held_only : (facts : List Fact) (n size v : ℕ) (o : Option ℕ) → IsHeld facts (In n (one_of size v)) → is_open facts n o ≡ true → o ≡ Some v
held_only facts n size v None h e = absurd (no_version n (one_of size v) (h None e))
held_only facts n size v (Some k) h e = ap Some (one_only size v k (h (Some k) e))

some_here : (p : Plain) (facts : List Fact) (k : ℕ) (f : Fact) (q : Term) (v : ℕ) → slice_get facts k ≡ Some f → node_of f.term < length p.nodes → IsMirror facts (node_of f.term) (size_of p (node_of f.term)) q
    → IsOnlyOption q (Some v) → IsCertainAt p facts k (Some (node_of f.term, v))
some_here p facts k f q v at there m h =
    let low : v < size_of p (node_of f.term) = subst (λ (l : ℕ). v < l) m.fits h.0 in (
      (λ g e. ap (λ (x : Fact). node_of x.term) (same_Some g f (sym e ∙ at))),
      there,
      low,
      (λ o e. (let same : o ≡ Some v = h.1 o (m.same o ∙ e) in
          subst (λ (x : Option ℕ). allows (In (node_of f.term) (one_of (size_of p (node_of f.term)) v)) x ≡ true) (sym same) (one_has (size_of p (node_of f.term)) v low))),
    )

-- the fact at a place, its node, and what is known of that
pub record IsReadAt (p : Plain) (facts : List Fact) (k n : ℕ) (q : Term) : Type 0 where
  pub fact : Fact
  pub at : slice_get facts k ≡ Some fact
  pub node : n ≡ node_of fact.term
  pub there : node_of fact.term < length p.nodes
  pub mirror : IsMirror facts (node_of fact.term) (size_of p (node_of fact.term)) q

pub read_at : (p : Plain) (sizes : List ℕ) (known before : List Term) (facts : List Fact) (k n : ℕ) (f : Fact) (q : Term) → IsStanding sizes known before facts → sizes ≡ sizes_of p → k < length facts → f ≡ get_or facts k f → n ≡ node_of f.term → q ≡ get_or known n q
    → IsReadAt p facts k n q
read_at p sizes known before facts k n f q st same low read is kept =
    let at : slice_get facts k ≡ Some f = slice_get_read facts (length facts) k f refl low read in
    let inside = st.inside k f at in
    let there : node_of f.term < length sizes = inside.0 in
    let long : length sizes ≡ length p.nodes = ap (λ (l : List ℕ). length l) same ∙ sizes_length p.nodes in
    let size : get_or sizes (node_of f.term) 0 ≡ size_of p (node_of f.term) = ap (λ (l : List ℕ). get_or l (node_of f.term) 0) same ∙ sizes_at p (node_of f.term) in
    let count = st.count in
    let low' : n < length known = subst (λ (m : ℕ). m < length known) (sym is) (omega arith) in
    let here : slice_get known n ≡ Some q = slice_get_read known (length known) n q refl low' kept in
    let mirror : IsMirror facts n (get_or sizes n 0) q = st.mirror n q here in
    record {
      fact = f;
      at = at;
      node = is;
      there = omega (arith, there, long);
      mirror = subst (λ (z : ℕ). IsMirror facts (node_of f.term) z q) size (subst (λ (m : ℕ). IsMirror facts m (get_or sizes m 0) q) is mirror);
    }

-- what is known of the fact's node tells what is certain of it
pub certain_some : (p : Plain) (facts : List Fact) (k n : ℕ) (q : Term) (v : ℕ) → IsReadAt p facts k n q → IsOnlyOption q (Some v) → IsCertainAt p facts k (Some (n, v))
certain_some p facts k n q v r h = subst (λ (m : ℕ). IsCertainAt p facts k (Some (m, v))) (sym r.node) (some_here p facts k r.fact q v r.at r.there r.mirror h)

pub certain_none : (p : Plain) (facts : List Fact) (k n : ℕ) (q : Term) → IsReadAt p facts k n q → IsAlive facts → IsOnlyOption q None → IsCertainAt p facts k None
certain_none p facts k n q r alive h g v e held =
    let f : Fact = r.fact in
    let at : slice_get facts k ≡ Some f = r.at in
    let m : IsMirror facts (node_of f.term) (size_of p (node_of f.term)) q = r.mirror in
    let same : g ≡ f = same_Some g f (sym e ∙ at) in
    let held' : IsHeld facts (In (node_of f.term) (one_of (size_of p (node_of f.term)) v)) = subst (λ (x : Fact). IsHeld facts (In (node_of x.term) (one_of (size_of p (node_of x.term)) v))) same held in
    let one = alive.at (node_of f.term) in
    let is : one.0 ≡ Some v = held_only facts (node_of f.term) (size_of p (node_of f.term)) v one.0 held' one.1 in
    let other = h v (m.same (Some v) ∙ subst (λ (o : Option ℕ). is_open facts (node_of f.term) o ≡ true) is one.1) in
    other.2 (held_only facts (node_of f.term) (size_of p (node_of f.term)) v other.0 held' (sym (m.same other.0) ∙ other.1))
