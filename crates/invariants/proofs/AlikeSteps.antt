-- An instruction keeps alike rows alike, and comes to the same in both.
use Rattle.std.proofs.Common.{List, ◌≡◌, refl, ℕ, ◌+◌, ◌/◌, arith}
use Rattle.riscu.specs.Decoding.{decoded}
use Rattle.riscu.specs.Registers.{Registers, RegistersIn}
use Rattle.riscu.specs.declared.instruction.Instruction.{Instruction}
use Rattle.std.specs.Prelude.{Option, Some, None, Result, Ok, Err}
use Rattle.answers.specs.declared.error.ExecutorError.{ExecutorError}
use Rattle.riscu.proofs.Registers.{decoded_registers}
use Rattle.effects.specs.Reach.{InReach}
use Rattle.effects.specs.declared.effect.Effect.{Effect}
use Rattle.effects.specs.declared.effect.Effect.TheVariants as effect
use Rattle.effects.proofs.Reach.{in_reach}
use Rattle.rows.specs.Rows.{Row, pc_of, depth_of, memory_words, slot_at, memory_at}
use Rattle.values.specs.declared.Value.TheVariants.{Concrete}
use Rattle.execution.specs.Execution.{effect_in, applied, next_of}
use Rattle.execution.specs.declared.Next.{Next}
use Rattle.execution.specs.declared.Next.TheVariants as next
use Rattle.calls.specs.Calls.{a0}
use Rattle.calls.specs.declared.step.Step.{Step}
use Rattle.calls.specs.declared.step.Step.TheVariants as step
use Rattle.machine.specs.Steps.{fetched, followed, executed, interpreted, deeper, stepped, settled, advanced}
use Rattle.invariants.proofs.Alike.{Same, Relation, Ends, Both, Alike, same_slot}
use Rattle.invariants.proofs.AlikeCalls.{BothCalled, answer_alike, system_alike}

same_effect : {r s : Row} → Same r s → (i : Instruction) → effect_in i r ≡ effect_in i s
unfolding effect_in
same_effect e i = rw (e.pc, e.slots, e.marks)

same_fetch : {r s : Row} → Same r s → fetched r ≡ fetched s
unfolding fetched
same_fetch {r} {s} e = rw (same_slot e (32 + pc_of r / 8), e.pc, e.marks)

effect_reach : (i : Instruction) (r : Row) → Registers i → InReach (memory_words r) (effect_in i r)
unfolding effect_in
effect_reach i r k = in_reach i (pc_of r) (slot_at r) (memory_words r) k

module _ (w : ℕ) (tape tape' : List ℕ) (R : Relation) (If : Ends) (alike : Alike w tape tape' R If) where
  -- every write is to pc, to registers 1 to 31 or to memory
  applied_alike : (e : Effect) {u v : ℕ} (r s : Row) → InReach w e → R u r v s → R u (applied e r) v (applied e s)
  unfolding applied
  applied_alike (effect.Assign rd x pc) r s k h = alike.to_header 0 pc (omega arith) (alike.to_slot rd x k.0 (omega arith) h)
  applied_alike (effect.Load rd m pc) r s k h =
      rw (← same_slot (alike.same h) (32 + m)) (alike.to_header 0 pc (omega arith) (alike.to_slot rd (memory_at r m) k.0 (omega arith) h))
  applied_alike (effect.Store m x pc) r s k h = alike.to_header 0 pc (omega arith) (alike.to_slot (32 + m) x (omega arith) (omega arith) h)
  applied_alike (effect.Jump pc) r s k h = alike.to_header 0 pc (omega arith) h
  applied_alike effect.Call r s k h = h
  applied_alike (effect.End o) r s k h = h

  followed_alike : (n : Next) (u v : ℕ) (r s : Row) → R u r v s → BothCalled R If (followed n tape u r) (followed n tape' v s)
  unfolding followed
  followed_alike next.Instruction u v r s h i = record { rows = h; step = refl }
  followed_alike next.Call u v r s h i = system_alike w tape tape' R If alike u v r s h i
  followed_alike (next.End o) u v r s h i = record { rows = h; step = refl }

  executed_alike : (d : Option Instruction) (u v : ℕ) (r s : Row) → RegistersIn d → R u r v s → BothCalled R If (executed d tape u r) (executed d tape' v s)
  unfolding executed
  executed_alike (Some i) u v r s k h =
      rw (← same_effect (alike.same h) i)
      (followed_alike (next_of (effect_in i r)) u v _ _
      (applied_alike (effect_in i r) r s (rw (alike.memory h) at (effect_reach i r k)) h))
  executed_alike None u v r s k h = λ i. record { rows = h; step = refl }

  interpreted_alike : (x : Result ℕ ExecutorError) (u v : ℕ) (r s : Row) → R u r v s → BothCalled R If (interpreted x tape u r) (interpreted x tape' v s)
  unfolding interpreted
  interpreted_alike (Ok x) u v r s h = executed_alike (decoded x) u v r s (decoded_registers x) h
  interpreted_alike (Err e) u v r s h = λ i. record { rows = h; step = refl }

  deeper_alike : {u v : ℕ} (r s : Row) → R u r v s → R u (deeper r) v (deeper s)
  deeper_alike r s h = rw (← (alike.same h).depth) (alike.to_header 2 (depth_of r + 1) (omega arith) h)

  pub stepped_alike : (u v : ℕ) (r s : Row) → R u r v s → BothCalled R If (stepped tape u r) (stepped tape' v s)
  unfolding stepped
  stepped_alike u v r s h =
      let d = deeper_alike r s h in
      rw (← same_fetch (alike.same d)) (interpreted_alike (fetched (deeper r)) u v (deeper r) (deeper s) d)

  settled_alike : (t t' : Step) (u v : ℕ) (r s : Row) → (If t r → R u r v s × (t ≡ t')) → Both R If (settled t u r) (settled t' v s)
  unfolding settled
  settled_alike step.Running t' u v r s h i = let a = h i in rw (← a.1) (record { rows = a.0; progress = refl })
  settled_alike (step.Write buffer size) t' u v r s h i =
      let a = h (alike.if_write buffer size r (alike.if_slot step.Running r a0 (Concrete size) (omega arith) i)) in
      rw (← a.1) (record { rows = answer_alike w tape tape' R If alike size a.0; progress = refl })
  settled_alike (step.Ended o) t' u v r s h i = let a = h i in rw (← a.1) (record { rows = a.0; progress = refl })

  pub advanced_alike : (u v : ℕ) (r s : Row) → R u r v s → Both R If (advanced tape u r) (advanced tape' v s)
  unfolding advanced
  advanced_alike u v r s h =
      let x = stepped tape u r in
      let y = stepped tape' v s in
      settled_alike x.stepped.step y.stepped.step x.stepped.used y.stepped.used x.row y.row
      (λ i. let b = stepped_alike u v r s h i in (b.rows, b.step))
