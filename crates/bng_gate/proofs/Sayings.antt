-- A line is written part after part.
use Rattle.std.proofs.Common.{ℕ, ◌+◌, ◌≤◌, List, ◌++◌, length, take, length-append, refl, sym, subst, arith}
use Rattle.std.proofs.Math.Seq.{take-append-add}
use Rattle.std.proofs.lemmas.List.{take-append-le}
use Rattle.bng_base.specs.Told.{SinkTold, Grows}
use Rattle.bng_base.proofs.ToldLaws.{grows_more, rose_late}
use Rattle.bng_plant.specs.declared.answers.Wrote.{Wrote}
use Rattle.bng_plant.specs.declared.answers.Wrote.TheVariants.{Ok, Failed}
use Rattle.bng_gate.specs.Saying.{FailsToSay, Says}

-- the sink failed in the first part
fails_front : (a b : SinkTold) (xs ys : List ℕ) → FailsToSay a b xs → FailsToSay a b (xs ++ ys)
fails_front a b xs ys f = record {
  front = f.front;
  within = omega (arith, f.within, length-append xs ys);
  told = subst (λ (text : List ℕ). Grows a.bytes b.bytes text) (sym (take-append-le f.front xs ys f.within)) f.told;
  rose = f.rose;
}

-- it failed after the first part
fails_after : (a b c : SinkTold) (xs ys : List ℕ) → Grows a.bytes b.bytes xs → a.faults ≤ b.faults → FailsToSay b c ys → FailsToSay a c (xs ++ ys)
fails_after a b c xs ys grew later f = record {
  front = length xs + f.front;
  within = omega (arith, f.within, length-append xs ys);
  told = subst (λ (text : List ℕ). Grows a.bytes c.bytes text) (sym (take-append-add xs ys f.front)) (grows_more a.bytes b.bytes c.bytes xs (take f.front ys) grew f.told);
  rose = rose_late a.faults b.faults c.faults later f.rose;
}

pub says_front : (a b : SinkTold) (xs ys : List ℕ) → Says a b xs Failed → Says a b (xs ++ ys) Failed
says_front a b xs ys s = record {
  written = λ ok. cc;
  later = s.later;
  failed = λ failed. fails_front a b xs ys (s.failed failed);
}

pub says_more : (a b c : SinkTold) (xs ys : List ℕ) (w : Wrote) → Says a b xs Ok → Says b c ys w → Says a c (xs ++ ys) w
says_more a b c xs ys w s t = record {
  written = λ ok. grows_more a.bytes b.bytes c.bytes xs ys (s.written refl) (t.written ok);
  later = omega (arith, s.later, t.later);
  failed = λ failed. fails_after a b c xs ys (s.written refl) s.later (t.failed failed);
}
