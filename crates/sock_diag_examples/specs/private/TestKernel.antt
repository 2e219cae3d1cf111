-- Errors of the functions that append messages to an answer.
use Rattle.std.specs.Prelude.{⊤}
use Rattle.sock_diag_examples.specs.declared.test_kernel.AnswerError.{AnswerError}
use Rattle.sock_diag_examples.specs.declared.test_kernel.AnswerError.TheVariants as errors

-- `FailsUnless are_writable e`: what holds if a function that appends messages returns the error
-- `e`. `are_writable` states that all of these messages are writable.
-- - `Unwritable`: `are_writable` does not hold.
-- - `Memory`: nothing is stated (`⊤`).
-- - `Request` is never returned (`⊥`).
abbrev pub FailsUnless : Type 0 → AnswerError → Type 0
FailsUnless are_writable (errors.Request e) = ⊥
FailsUnless are_writable errors.Unwritable = ¬ are_writable
FailsUnless are_writable errors.Memory = ⊤
