use Rattle.laws_commands.proofs.Exports.{exports_of_files, exports_of_verified_files}
use Rattle.laws_commands.proofs.laws.exports_are_right.Goals as goal

pub returns-clause-printed : goal.returns-clause-printed
returns-clause-printed c =
    exports_of_files c.inputs_are_answered.ensures c.exports_are_exact.ensures c.locks_are_sound.ensures.sound
    c.printed_laws.ensures

pub returns-clause-verified : goal.returns-clause-verified
returns-clause-verified c =
    exports_of_verified_files c.inputs_are_answered.ensures c.exports_are_exact.ensures c.verified_files.ensures.sound
