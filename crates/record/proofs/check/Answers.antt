-- `record::check` meets its contract: at each `return` the tests that led there say which check is the first to fail.
use Prim.Native.Nat.{ℕ}
use native.Mathlib.Omega.{arith}
use mathlib.Core.List.{List}
use lib.ListN.{length}
use borrow.Author.Tests.{eq-eqb, ne_eqb, le-leb, lt-leb}
use Rattle.record.specs.Faults.{first_fault}
use Rattle.record.specs.Record.{checks, byte, target_limit, value_limit}
use Rattle.record.proofs.check.Goals as goal

pub returns-then-src-ne8 : goal.returns-then-src-ne8
unfolding first_fault checks
returns-then-src-ne8 c =
    let l : List ℕ = c.args.src.now in
    simp (ne_eqb (length l) 8 c.if-src-ne8.true)

pub returns-then-src : goal.returns-then-src
unfolding first_fault checks
returns-then-src c =
    let l : List ℕ = c.args.src.now in
    simp (
      eq-eqb (length l) 8 (omega arith),
      ne_eqb (byte l 0) 167 c.if-src.true,
    )

pub returns-then-src-2 : goal.returns-then-src-2
unfolding first_fault checks
returns-then-src-2 c =
    let l : List ℕ = c.args.src.now in
    simp (
      eq-eqb (length l) 8 (omega arith),
      eq-eqb (byte l 0) 167 (omega arith),
      ne_eqb (byte l 1) 122 c.if-src-2.true,
    )

pub returns-then-kind-lt1 : goal.returns-then-kind-lt1
unfolding first_fault checks
returns-then-kind-lt1 c =
    let l : List ℕ = c.args.src.now in
    simp (
      eq-eqb (length l) 8 (omega arith),
      eq-eqb (byte l 0) 167 (omega arith),
      eq-eqb (byte l 1) 122 (omega arith),
      lt-leb 1 (byte l 2) (omega arith),
    )

pub returns-then-kind-gt10 : goal.returns-then-kind-gt10
unfolding first_fault checks
returns-then-kind-gt10 c =
    let l : List ℕ = c.args.src.now in
    simp (
      eq-eqb (length l) 8 (omega arith),
      eq-eqb (byte l 0) 167 (omega arith),
      eq-eqb (byte l 1) 122 (omega arith),
      le-leb 1 (byte l 2) (omega arith),
      lt-leb (byte l 2) 10 (omega arith),
    )

pub returns-then-src-gt15 : goal.returns-then-src-gt15
unfolding first_fault checks
returns-then-src-gt15 c =
    let l : List ℕ = c.args.src.now in
    simp (
      eq-eqb (length l) 8 (omega arith),
      eq-eqb (byte l 0) 167 (omega arith),
      eq-eqb (byte l 1) 122 (omega arith),
      le-leb 1 (byte l 2) (omega arith),
      le-leb (byte l 2) 10 (omega arith),
      lt-leb (byte l 3) 15 (omega arith),
    )

pub returns-then-target_limit-src : goal.returns-then-target_limit-src
unfolding first_fault checks
returns-then-target_limit-src c =
    let l : List ℕ = c.args.src.now in
    simp (
      eq-eqb (length l) 8 (omega arith),
      eq-eqb (byte l 0) 167 (omega arith),
      eq-eqb (byte l 1) 122 (omega arith),
      le-leb 1 (byte l 2) (omega arith),
      le-leb (byte l 2) 10 (omega arith),
      le-leb (byte l 3) 15 (omega arith),
      lt-leb (byte l 4) (target_limit (byte l 2)) (omega arith),
    )

pub returns-then-src-ne0 : goal.returns-then-src-ne0
unfolding first_fault checks
returns-then-src-ne0 c =
    let l : List ℕ = c.args.src.now in
    simp (
      eq-eqb (length l) 8 (omega arith),
      eq-eqb (byte l 0) 167 (omega arith),
      eq-eqb (byte l 1) 122 (omega arith),
      le-leb 1 (byte l 2) (omega arith),
      le-leb (byte l 2) 10 (omega arith),
      le-leb (byte l 3) 15 (omega arith),
      le-leb (byte l 4) (target_limit (byte l 2)) (omega arith),
      ne_eqb (byte l 5) 0 c.if-src-ne0.true,
    )

pub returns-then-value_limit-src : goal.returns-then-value_limit-src
unfolding first_fault checks
returns-then-value_limit-src c =
    let l : List ℕ = c.args.src.now in
    simp (
      eq-eqb (length l) 8 (omega arith),
      eq-eqb (byte l 0) 167 (omega arith),
      eq-eqb (byte l 1) 122 (omega arith),
      le-leb 1 (byte l 2) (omega arith),
      le-leb (byte l 2) 10 (omega arith),
      le-leb (byte l 3) 15 (omega arith),
      le-leb (byte l 4) (target_limit (byte l 2)) (omega arith),
      eq-eqb (byte l 5) 0 (omega arith),
      lt-leb (byte l 6) (value_limit (byte l 2)) (omega arith),
    )

pub returns-then-value_limit-src-2 : goal.returns-then-value_limit-src-2
unfolding first_fault checks
returns-then-value_limit-src-2 c =
    let l : List ℕ = c.args.src.now in
    simp (
      eq-eqb (length l) 8 (omega arith),
      eq-eqb (byte l 0) 167 (omega arith),
      eq-eqb (byte l 1) 122 (omega arith),
      le-leb 1 (byte l 2) (omega arith),
      le-leb (byte l 2) 10 (omega arith),
      le-leb (byte l 3) 15 (omega arith),
      le-leb (byte l 4) (target_limit (byte l 2)) (omega arith),
      eq-eqb (byte l 5) 0 (omega arith),
      le-leb (byte l 6) (value_limit (byte l 2)) (omega arith),
      lt-leb (byte l 7) (value_limit (byte l 2)) (omega arith),
    )

pub returns : goal.returns
unfolding first_fault checks
returns c =
    let l : List ℕ = c.args.src.now in
    simp (
      eq-eqb (length l) 8 (omega arith),
      eq-eqb (byte l 0) 167 (omega arith),
      eq-eqb (byte l 1) 122 (omega arith),
      le-leb 1 (byte l 2) (omega arith),
      le-leb (byte l 2) 10 (omega arith),
      le-leb (byte l 3) 15 (omega arith),
      le-leb (byte l 4) (target_limit (byte l 2)) (omega arith),
      eq-eqb (byte l 5) 0 (omega arith),
      le-leb (byte l 6) (value_limit (byte l 2)) (omega arith),
      le-leb (byte l 7) (value_limit (byte l 2)) (omega arith),
    )
