-- What a lock gives has names and a version that a text can spell.
use Rattle.std.proofs.Common.{◌≡◌, ◌≢◌, ◌⊎◌, ℕ, List, IfSome, inl, inr, ⊎_elim, subst}
use Rattle.ul_base.specs.Names.{IsNormalName}
use Rattle.ul_base.specs.declared.node.Node.{Node}
use Rattle.ul_base.proofs.ForCallers.{reached_in}
use Rattle.ul_version.specs.Fields.{Fields, IsVersion}
use Rattle.ul_comparison.specs.Worlds.{WorldFields}
use Rattle.ul_lock.specs.WellFormed.{IsEdge, IsWellFormed}
use Rattle.ul_lock.specs.declared.parts.Edge.{Edge}
use Rattle.ul_lock.specs.declared.parts.Lock.{Lock}
use Rattle.ul_lock.specs.Walk.{Pick as NodeAt, Walk, WalkBegins, WalkLeads}
use Rattle.ul_lock_nodes.proofs.ForCallers.{is_edge}

-- the parts of a node and its version
pub record IsNamed (n : Node) (v : Fields) : Type 0 where
  pub name : IsNormalName n.name
  pub extra : IfSome n.extra IsNormalName
  pub version : IsVersion v

edge_named : (e : Edge) → IsEdge e → IsNamed e.target e.version
edge_named e is = record { name = is.name; extra = is.extra; version = is.version }

-- a node of the root, or one with such parts
abbrev RootOrNamed : Lock → NodeAt → Type 0
RootOrNamed l q = (q.0.name ≡ l.root) ⊎ IsNamed q.0 q.1

-- all but the root's own nodes are the target of an edge
pub given_named : (l : Lock) (w : WorldFields) (xs : List (List ℕ)) (p : NodeAt) → IsWellFormed l → Walk l w xs p
    → p.0.name ≢ l.root → IsNamed p.0 p.1
given_named l w xs p ok walk other =
    ⊎_elim (λ e. absurd (other e)) (λ h. h) (reached_in (RootOrNamed l) begun led walk)
  where
    begun : (q : NodeAt) → WalkBegins l xs q → RootOrNamed l q
    begun q h = inl (h.1).0

    led : (a b : NodeAt) → Walk l w xs a → RootOrNamed l a → WalkLeads l w a b → RootOrNamed l b
    led a b r h s =
        let target : IsNamed s.0.target s.0.version = edge_named s.0 (is_edge l ok a s.0 s.1) in
        inr (subst (λ (v : Fields). IsNamed b.0 v) s.4 (subst (λ (n : Node). IsNamed n s.0.version) s.3 target))
