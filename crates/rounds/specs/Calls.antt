-- What a search call is given.
use Rattle.std.specs.Prelude.{List, ℕ, ◌/◌}
use Rattle.loader.specs.Loading.{Program}
use Rattle.store.specs.Store.{layout}
use Rattle.store.specs.declared.layout.Layout.{Layout}
use Rattle.options.specs.declared.RaritySimulationOptions.{RaritySimulationOptions}

-- the store of a search: one row a state, of W memory words and L log words
abbrev pub layout_of : RaritySimulationOptions → ℕ → Layout
layout_of o log = layout o.amount_of_states (o.memory_size / 8) log

pub record Call : Type 0 where
  pub options : RaritySimulationOptions
  pub store : Layout
  pub image : Program
  pub tape : List ℕ

abbrev pub call : RaritySimulationOptions → Layout → Program → List ℕ → Call
call o s p tape = record { options = o; store = s; image = p; tape = tape }

-- the same call with another number of rounds
abbrev pub of_rounds : ℕ → Call → Call
of_rounds k c =
    record {
      options =
          record {
            memory_size = c.options.memory_size;
            amount_of_states = c.options.amount_of_states;
            step_size = c.options.step_size;
            selection = c.options.selection;
            iterations = k;
            copy_init_ratio = c.options.copy_init_ratio;
            mean = c.options.mean;
          };
      store = c.store;
      image = c.image;
      tape = c.tape;
    }
