pub mod NamingWords
