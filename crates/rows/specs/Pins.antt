-- Pin rows: thread or 0, family 0..11, buffer, making line. Assumes nothing.
use Rattle.std.specs.Prelude.{refl, Bool, ◌&&◌, [], ◌∷◌, ℕ, get_or, eqb}
use Rattle.rows.specs.declared.pins.Pin.{Pin}
use Rattle.rows.specs.Table.{Layout}

-- four numbers to a row
abbrev pub pins : Layout Pin
pins =
    record {
      stride = 4;
      numbers = λ x. x.thread ∷ x.family ∷ x.buffer ∷ x.line ∷ [];
      row_of = λ vs. record { thread = get_or vs 0 0; family = get_or vs 1 0; buffer = get_or vs 2 0; line = get_or vs 3 0 };
      whole = λ x. refl;
      back = λ x. refl;
    }

-- the row is of thread t
abbrev pub of_thread : ℕ → Pin → Bool
of_thread t x = eqb x.thread t

-- the row is that of buffer b of family f, of thread t
abbrev pub is_buffer : ℕ → ℕ → ℕ → Pin → Bool
is_buffer t f b x = eqb x.buffer b && eqb x.family f && of_thread t x
