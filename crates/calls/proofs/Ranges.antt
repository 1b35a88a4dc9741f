-- The buffer of a call lies in a memory of w words.
use Rattle.std.proofs.Common.{Ok, Err, ℕ, ◌+◌, ◌*◌, ◌/◌, ◌&&◌, ltb, leb, leb-true}
use Rattle.laws.proofs.Choices.{chosen, parts}
use Rattle.values.specs.declared.Value.{Value}
use Rattle.values.specs.declared.Value.TheVariants.{Concrete, Uninitialized}
use Rattle.rows.specs.Rows.{Row, slot_at}
use Rattle.calls.specs.declared.transfer.Reasons.{Reasons}
use Rattle.calls.specs.InMemory.{InMemory}
use Rattle.calls.specs.Calls.{a0, a1, a2, unsupported, valid_range, buffer_and_size, is_file, transfer_of}

valid_in_memory : (buffer size w : ℕ) → InMemory w (valid_range buffer size w)
unfolding valid_range
valid_in_memory buffer size w =
    chosen (InMemory w) (ltb (buffer / 8) w && leb (buffer + size) (8 * w)) (Ok _) (Err _)
    (λ t. leb-true (buffer + size) (8 * w) (parts (ltb (buffer / 8) w) (leb (buffer + size) (8 * w)) t).1) (λ t. tt)

named_in_memory : (reasons : Reasons) (buffer size : Value) (w : ℕ) → InMemory w (buffer_and_size reasons buffer size w)
unfolding buffer_and_size
named_in_memory reasons (Concrete buffer) (Concrete size) w = valid_in_memory buffer size w
named_in_memory reasons (Concrete buffer) Uninitialized w = tt
named_in_memory reasons Uninitialized size w = tt

pub transfer_in_memory : (fd : ℕ) (reasons : Reasons) (w : ℕ) (r : Row) → InMemory w (transfer_of fd reasons w r)
unfolding transfer_of
transfer_in_memory fd reasons w r =
    chosen (InMemory w) (is_file fd (slot_at r a0)) (buffer_and_size reasons (slot_at r a1) (slot_at r a2) w) (Err (unsupported reasons.file))
    (λ t. named_in_memory reasons (slot_at r a1) (slot_at r a2) w) (λ t. tt)
