use Rattle.std.proofs.Common.{ap, ◌∙◌, ◌≡◌, ◌++◌, string_bytes}
use Rattle.ul_comparison.specs.declared.variable.Variable.TheVariants.{OsName, SysPlatform, PlatformMachine, PlatformPythonImplementation, PlatformRelease, PlatformSystem, PlatformVersion, ImplementationName}
use Rattle.ul_report.specs.Texts.{text_part}
use Rattle.ul_report.proofs.Written.{eight_written}
use Rattle.ul_report.proofs.refusals.push_texts.Goals as goal

pub returns : goal.returns
returns c =
    let f = text_part c.args.world.now in
    let e1 : string_bytes c.push_text_of.new.out ≡ string_bytes c.args.out.now ++ f OsName = c.in_ok-push_text_of.ensures in
    let e2 : string_bytes c.push_text_of-2.new.out ≡ string_bytes c.push_text_of.new.out ++ f SysPlatform = c.in_ok-push_text_of-2.ensures in
    let e3 : string_bytes c.push_text_of-3.new.out ≡ string_bytes c.push_text_of-2.new.out ++ f PlatformMachine = c.in_ok-push_text_of-3.ensures in
    let e4 : string_bytes c.push_text_of-4.new.out ≡ string_bytes c.push_text_of-3.new.out ++ f PlatformPythonImplementation = c.in_ok-push_text_of-4.ensures in
    let e5 : string_bytes c.push_text_of-5.new.out ≡ string_bytes c.push_text_of-4.new.out ++ f PlatformRelease = c.in_ok-push_text_of-5.ensures in
    let e6 : string_bytes c.push_text_of-6.new.out ≡ string_bytes c.push_text_of-5.new.out ++ f PlatformSystem = c.in_ok-push_text_of-6.ensures in
    let e7 : string_bytes c.push_text_of-7.new.out ≡ string_bytes c.push_text_of-6.new.out ++ f PlatformVersion = c.in_ok-push_text_of-7.ensures in
    let e8 : string_bytes c.push_text_of-8.new.out ≡ string_bytes c.push_text_of-7.new.out ++ f ImplementationName = c.in_ok-push_text_of-8.ensures in
    e8 ∙ (ap (λ q. q ++ f ImplementationName) (e7 ∙ ap (λ q. q ++ f PlatformVersion) (e6 ∙ ap (λ q. q ++ f PlatformSystem) (e5 ∙ ap (λ q. q ++ f PlatformRelease)
    (e4 ∙ ap (λ q. q ++ f PlatformPythonImplementation) (e3 ∙ ap (λ q. q ++ f PlatformMachine) (e2 ∙ ap (λ q. q ++ f SysPlatform) e1))))))
    ∙ eight_written f (string_bytes c.args.out.now) OsName SysPlatform PlatformMachine PlatformPythonImplementation PlatformRelease PlatformSystem PlatformVersion ImplementationName)
