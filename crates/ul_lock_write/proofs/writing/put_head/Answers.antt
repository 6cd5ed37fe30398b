use Rattle.std.proofs.Common.{ap, ◌∙◌, ◌≡◌, ◌++◌, ◌∷◌, []}
use Rattle.std.specs.Prelude.{codes}
use Rattle.ul_lock_lines.specs.Raw.{keyed, quoted}
use Rattle.ul_lock_write.specs.Written.{supported_text, forks_text}
use Rattle.ul_lock_write.proofs.Written.{head_written}
use Rattle.ul_lock_write.proofs.writing.put_head.Goals as goal

pub returns : goal.returns
returns c =
    let root = keyed (codes "root") (quoted c.args.lock.now.root (10 ∷ [])) in
    let a : c.extend_from_slice.new.self.items ≡ c.args.out.now.items ++ (codes "version = 2" ++ 10 ∷ []) = c.in_ok-extend_from_slice.ensures.items in
    let b : c.put_name_line.new.out.items ≡ c.extend_from_slice.new.self.items ++ root = c.in_ok-put_name_line.ensures in
    let d : c.put_supported.new.out.items ≡ c.put_name_line.new.out.items ++ supported_text c.args.lock.now.supported = c.in_ok-put_supported.ensures in
    let e : c.put_forks.new.out.items ≡ c.put_supported.new.out.items ++ forks_text c.args.lock.now.forks = c.in_ok-put_forks.ensures ∙ ap (λ z. c.put_supported.new.out.items ++ forks_text z) c.as_slice.ensures in
    e ∙ (ap (λ q. q ++ forks_text c.args.lock.now.forks) (d ∙ ap (λ q. q ++ supported_text c.args.lock.now.supported) (b ∙ ap (λ q. q ++ root) a)) ∙ head_written c.args.out.now.items c.args.lock.now)
