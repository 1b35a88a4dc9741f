-- A system call keeps alike rows alike, and comes to the same in both.
use Rattle.std.proofs.Common.{Bool, false, cond, List, ◌≡◌, refl, ap, ap₂, subst, ℕ, zero, suc, ◌+◌, ◌/◌, ◌%◌, arith, ltb, length}
use Rattle.laws.proofs.Choices.{both_chosen}
use Rattle.calls.specs.declared.number.SyscallId.{SyscallId}
use Rattle.calls.specs.declared.number.SyscallId.TheVariants as call
use Rattle.values.specs.declared.Value.{Value}
use Rattle.values.specs.declared.Value.TheVariants.{Concrete, Uninitialized}
use Rattle.rows.specs.Rows.{Row, break_of, memory_words, slot_at}
use Rattle.reading.specs.Reading.{onwards, running, bytes}
use Rattle.answers.specs.declared.outcome.Progress.{Progress}
use Rattle.answers.specs.declared.outcome.Progress.TheVariants.{Running, Ended}
use Rattle.std.specs.Prelude.{Result, Ok, Err}
use Rattle.answers.specs.declared.outcome.Outcome.{Outcome}
use Rattle.calls.specs.declared.transfer.Buffer.{Buffer}
use Rattle.calls.specs.declared.transfer.Reasons.{Reasons}
use Rattle.calls.specs.InMemory.{InMemory}
use Rattle.calls.specs.Calls.{Called, a0, a1, a2, a7, returned, brk, transfer_of, read_reasons, write_reasons, read_to, read, is_concrete, all_concrete, write_from, write, step_of, call_of, id_of, system}
use Rattle.calls.proofs.Ranges.{transfer_in_memory}
use Rattle.invariants.proofs.Alike.{Same, Relation, Ends, Both, Alike, same_slot}

same_transfer : {r s : Row} → Same r s → (fd : ℕ) (reasons : Reasons) (w : ℕ) → transfer_of fd reasons w r ≡ transfer_of fd reasons w s
unfolding transfer_of
same_transfer e fd reasons w = rw (same_slot e a0, same_slot e a1, same_slot e a2)

same_concrete : {r s : Row} → Same r s → (n m : ℕ) → all_concrete n m r ≡ all_concrete n m s
unfolding all_concrete
same_concrete e zero m = refl
same_concrete e (suc n) m = ap₂ (λ (v : Value) (b : Bool). cond (is_concrete v) b false) (same_slot e (32 + m)) (same_concrete e n (m + 1))

same_write_from : {r s : Row} → Same r s → (to : Result Buffer Outcome) → write_from to r ≡ write_from to s
unfolding write_from
same_write_from e (Ok b) = rw (same_concrete e ((b.size + b.address % 8 + 7) / 8) (b.address / 8))
same_write_from e (Err o) = refl

same_write : {r s : Row} → Same r s → write r ≡ write s
unfolding write
same_write {r} e = rw (← ap length e.marks, same_transfer e 1 write_reasons (memory_words r)) (same_write_from e _)

-- related rows that a call or an instruction left, with the same step to say of both
pub record AgreedCalled (R : Relation) (x y : Called) : Type 0 where
  pub rows : R x.stepped.used x.row y.stepped.used y.row
  pub step : x.stepped.step ≡ y.stepped.step

abbrev pub BothCalled : Relation → Ends → Called → Called → Type 0
BothCalled R If x y = If x.stepped.step x.row → AgreedCalled R x y

module _ (w : ℕ) (tape tape' : List ℕ) (R : Relation) (If : Ends) (alike : Alike w tape tape' R If) where
  -- a0 is a register
  pub answer_alike : (x : ℕ) {u v : ℕ} {r s : Row} → R u r v s → R u (returned x r) v (returned x s)
  answer_alike x h = alike.to_slot a0 (Concrete x) (omega arith) (omega arith) h

  brk_alike : (words : ℕ) (wanted : Value) {u v : ℕ} (r s : Row) → R u r v s → R u (brk words wanted r) v (brk words wanted s)
  unfolding brk
  brk_alike words (Concrete wanted) {u} {v} r s h =
      let refused = answer_alike (break_of r) h in
      rw (← (alike.same h).break)
      (both_chosen (λ (p q : Row). R u p v q) (ltb wanted (break_of r)) (λ t. refused)
      (λ t. both_chosen (λ (p q : Row). R u p v q) (ltb (wanted / 8) words) (λ k. alike.to_header 1 wanted (omega arith) h) (λ k. refused)))
  brk_alike words Uninitialized r s h = h

  -- what is read is followed by a0 = size
  then_returned : (size : ℕ) (p q : Progress) (u v : ℕ) (r s : Row) → (If (step_of p) r → R u r v s × (p ≡ q))
      → Both R If (onwards (λ a b. running a (returned size b)) p u r) (onwards (λ a b. running a (returned size b)) q v s)
  unfolding onwards
  then_returned size Running q u v r s h i =
      let a = h (alike.if_slot (step_of Running) r a0 (Concrete size) (omega arith) i) in
      rw (← a.1) (record { rows = answer_alike size a.0; progress = refl })
  then_returned size (Ended o) q u v r s h i = let a = h i in rw (← a.1) (record { rows = a.0; progress = refl })

  -- the words of a buffer are in memory
  read_to_alike : (to : Result Buffer Outcome) (u v : ℕ) (r s : Row) → InMemory w to → R u r v s → Both R If (read_to to tape u r) (read_to to tape' v s)
  unfolding read_to
  read_to_alike (Ok b) u v r s k h =
      let x = bytes b.size tape (b.address / 8) u r in
      let y = bytes b.size tape' (b.address / 8) v s in
      then_returned b.size x.moved.progress y.moved.progress x.moved.used y.moved.used x.row y.row
      (λ i. let a = alike.reads b.size (b.address / 8) u v r s (omega arith) h i in (a.rows, a.progress))
  read_to_alike (Err o) u v r s k h = λ i. record { rows = h; progress = refl }

  read_alike : (u v : ℕ) (r s : Row) → R u r v s → Both R If (read tape u r) (read tape' v s)
  unfolding read
  read_alike u v r s h =
      let to = transfer_of 0 read_reasons (memory_words r) r in
      let inside = subst (λ (n : ℕ). InMemory n to) (alike.memory h) (transfer_in_memory 0 read_reasons (memory_words r) r) in
      rw (← ap length (alike.same h).marks, ← same_transfer (alike.same h) 0 read_reasons (memory_words r)) (read_to_alike to u v r s inside h)

  call_alike : (id : SyscallId) (u v : ℕ) (r s : Row) → R u r v s → BothCalled R If (call_of id tape u r) (call_of id tape' v s)
  unfolding call_of
  call_alike call.Brk u v r s h i =
      rw (← ap length (alike.same h).marks, ← same_slot (alike.same h) a0)
      (record { rows = brk_alike (memory_words r) (slot_at r a0) r s h; step = refl })
  call_alike call.Read u v r s h i =
      let b = read_alike u v r s h i in
      record { rows = b.rows; step = ap step_of b.progress }
  call_alike call.Write u v r s h i = rw (← same_write (alike.same h)) (record { rows = h; step = refl })
  call_alike call.Exit u v r s h i = rw (← same_slot (alike.same h) a0) (record { rows = h; step = refl })
  call_alike call.Unknown u v r s h i = record { rows = h; step = refl }

  pub system_alike : (u v : ℕ) (r s : Row) → R u r v s → BothCalled R If (system tape u r) (system tape' v s)
  unfolding system
  system_alike u v r s h i =
      let x = call_of (id_of (slot_at r a7)) tape u r in
      let b = call_alike (id_of (slot_at r a7)) u v r s h (alike.if_header x.stepped.step x.row 0 _ (omega arith) i) in
      rw (← same_slot (alike.same h) a7, ← (alike.same b.rows).pc)
      (record { rows = alike.to_header 0 _ (omega arith) b.rows; step = b.step })
